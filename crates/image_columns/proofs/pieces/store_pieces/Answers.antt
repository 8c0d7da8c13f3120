-- `store_pieces` meets its contract. Assumes nothing.
use Rattle.image_columns.proofs.ColumnLaws.{pieces_stored}
use Rattle.image_columns.proofs.pieces.store_pieces.Goals as goal

pub returns : goal.returns
returns c = pieces_stored _ _ _ _ _ _ c.lay_pieces.ensures.pads c.lay_pieces.ensures.others
