-- `ch_mark_as_finished` asks of its caller what `mark_as_finished` asks, and tells what that answers. Assumes nothing.
use Rattle.link_changes.proofs.OutcomeLaws.{done_told}
use Rattle.link_changes.proofs.marks.ch_mark_as_finished.Goals as goal

pub returns : goal.returns
returns c = done_told _ _ _ _ _ _ _ _ _ _ _ c.told.ensures (rw c.from-s.ensures at c.mark_as_finished-m.ensures.change)
