-- `ch_piece_passed` asks of its caller what `piece_passed` asks, and tells what that answers. Assumes nothing.
use Rattle.link_changes.proofs.OutcomeLaws.{changed_told}
use Rattle.link_changes.proofs.flags.ch_piece_passed.Goals as goal

pub returns : goal.returns
returns c = changed_told _ _ _ _ _ _ _ _ _ _ _ c.told.ensures (rw c.from-s.ensures at c.piece_passed-edit.ensures.change)
