-- `piece_ok` meets its contract. Assumes nothing.
use Rattle.image_pieces.proofs.PieceLaws.{piece_test_lem}
use Rattle.image_pieces.proofs.piece.piece_ok.Goals as goal

pub returns : goal.returns
returns c = piece_test_lem _ _ _ _ _ _ _
