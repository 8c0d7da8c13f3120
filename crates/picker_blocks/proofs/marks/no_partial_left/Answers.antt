-- `no_partial_left` meets its contract. Assumes nothing.
use Rattle.picker_blocks.proofs.MarkTable.{none_left}
use borrow.Author.Rules.{rules}
use Rattle.picker_blocks.proofs.marks.no_partial_left.Goals as goal

pub returns : goal.returns
returns c = none_left _ _ _ _ _ _ c.state.ensures c.flushed.ensures
