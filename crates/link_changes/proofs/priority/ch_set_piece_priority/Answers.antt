-- `ch_set_piece_priority` asks of its caller what `set_piece_priority` asks, and tells what that answers. Assumes nothing.
use Rattle.link_changes.proofs.OutcomeLaws.{said_told}
use Rattle.link_changes.proofs.priority.ch_set_piece_priority.Goals as goal

pub returns : goal.returns
returns c = said_told _ _ _ _ _ _ _ _ _ _ _ _ c.told.ensures (rw c.from-s.ensures at c.set_piece_priority-r.ensures)
