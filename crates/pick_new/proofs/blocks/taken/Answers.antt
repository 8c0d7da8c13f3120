-- `taken` meets its contract. Assumes nothing.
use borrow.Author.Rules.{rules}
use Rattle.pick_new.proofs.BlockLaws.{taken_is}
use Rattle.pick_new.proofs.blocks.taken.Goals as goal

pub returns : goal.returns
returns c = taken_is _ _ _ c.saturating_sub-left.ensures
