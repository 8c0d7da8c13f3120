-- `ch_lock_piece` asks of its caller what `lock_piece` asks, and tells what that answers. Assumes nothing.
use Rattle.link_changes.proofs.OutcomeLaws.{edit_told}
use Rattle.link_changes.proofs.flags.ch_lock_piece.Goals as goal

pub returns : goal.returns
returns c = edit_told _ _ _ _ _ _ _ c.told.ensures c.lock_piece-edit.ensures
