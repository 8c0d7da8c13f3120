-- `pull_within` meets its contract: the last of the group behind k goes there at once, or all is pulled. Assumes nothing.
use borrow.Author.Rules.{rules}
use Rattle.list_moves.proofs.Pulling.{pulled_whole}
use Rattle.list_moves.proofs.pull_within.Goals as goal

pub returns-then-w-top_of : goal.returns-then-w-top_of
returns-then-w-top_of c = pulled_whole c.args.k c.args.last c.args.list.now c.if-k-last.true c.requires.last_in_bounds
    c.requires.rises c.top_of.ensures c.if-w-top_of.true
