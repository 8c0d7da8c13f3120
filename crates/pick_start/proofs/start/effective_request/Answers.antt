-- `effective_request` meets its contract. Assumes nothing.
use borrow.Author.Rules.{rules}
use Rattle.pick_start.proofs.StartLaws.{forced_made, forced_kept}
use Rattle.pick_start.proofs.start.effective_request.Goals as goal

pub returns-then-forced : goal.returns-then-forced
returns-then-forced c = forced_made c.args.q c.with.result c.with.ensures c.args.forced c.if-forced.true

pub returns : goal.returns
returns c = forced_kept c.args.q c.args.forced c.if-forced.false
