-- `piece_length` meets its contract: a piece is a part of the total. Assumes nothing.
use Rattle.model.specs.Bep3.{num_pieces, piece_length}
use Rattle.geometry.proofs.pieces.piece_length.Goals as goal

pub part_length-requires : goal.part_length-requires
unfolding num_pieces
part_length-requires c = c.requires

pub returns : goal.returns
unfolding piece_length
returns c = c.part_length.ensures
