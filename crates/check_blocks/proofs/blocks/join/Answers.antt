-- `join` meets its contract: joined cells are in range exactly where their parts are, and those of a block where it is good. Assumes
-- nothing.
use Rattle.check_blocks.proofs.JoinLaws.{join_row}
use borrow.Author.Rules.{rules}
use Rattle.check_blocks.proofs.blocks.join.Goals as goal

pub returns : goal.returns
returns c = join_row c.args.sum c.args.state c.args.num_peers c.args.has
    c.saturating_sub.result c.saturating_sub.ensures
