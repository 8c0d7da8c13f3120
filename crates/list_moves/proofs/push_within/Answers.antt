-- `push_within` meets its contract: what stands at k goes to the end of its group at once, or is pushed on. Assumes nothing.
use borrow.Author.Rules.{rules}
use Rattle.list_moves.proofs.Carrying.{pushed_whole}
use Rattle.list_moves.proofs.push_within.Goals as goal

pub returns-then-list-end : goal.returns-then-list-end
returns-then-list-end c = pushed_whole c.args.k c.args.end c.args.w c.args.list.now c.if-k-end.true
    c.requires.end_in_bounds c.requires.rises c.top_of.ensures c.if-list-end.true
