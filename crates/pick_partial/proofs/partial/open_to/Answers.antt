-- `open_to` meets its contract. Assumes nothing.
use Rattle.pick_partial.proofs.PartialLaws.{open_is}
use borrow.Author.Rules.{rules}
use Rattle.pick_partial.proofs.partial.open_to.Goals as goal

pub returns : goal.returns
returns c = open_is _ _ _ c.row-d.ensures _ _ c.u32_to_usize.ensures _ c.has_bit-has.ensures
