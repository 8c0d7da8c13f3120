-- `ch_mark_as_writing` asks of its caller what `mark_as_writing` asks, and tells what that answers. Assumes nothing.
use Rattle.link_changes.proofs.OutcomeLaws.{mark_told}
use Rattle.link_changes.proofs.marks.ch_mark_as_writing.Goals as goal

pub returns : goal.returns
returns c = mark_told _ _ _ _ _ _ _ _ _ _ _ c.told.ensures (rw c.from-s.ensures at c.mark_as_writing-m.ensures.change)
