-- `ch_mark_as_canceled` asks of its caller what `mark_as_canceled` asks, and tells what that answers. Assumes nothing.
use Rattle.link_changes.proofs.OutcomeLaws.{done_told}
use Rattle.link_changes.proofs.giving.ch_mark_as_canceled.Goals as goal

pub returns : goal.returns
returns c = done_told _ _ _ _ _ _ _ _ _ _ _ c.told.ensures (rw c.from-s.ensures at c.mark_as_canceled-given.ensures.change)
