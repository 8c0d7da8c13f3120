-- `head_ok` meets its contract. Assumes nothing.
use Rattle.image_pieces.proofs.HeadLaws.{head_test_lem}
use Rattle.image_pieces.proofs.head.head_ok.Goals as goal

pub returns : goal.returns
returns c = head_test_lem _ _ _ _ _ _ _ _ c.num_pieces-n.ensures c.valid_geometry.ensures
