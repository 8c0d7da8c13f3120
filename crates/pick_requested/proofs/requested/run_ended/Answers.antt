-- `run_ended` meets its contract. Assumes nothing.
use Rattle.pick_requested.proofs.RequestedLaws.{run_longer, run_stays}
use borrow.Author.Rules.{rules}
use Rattle.pick_requested.proofs.requested.run_ended.Goals as goal

pub returns-then-x : goal.returns-then-x
returns-then-x c = run_longer _ _ c.if-x.true

pub returns : goal.returns
returns c = run_stays _ _ c.if-x.false
