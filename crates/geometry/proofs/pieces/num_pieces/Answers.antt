-- `num_pieces` meets its contract: pieces are the parts of the total. Assumes nothing.
use Rattle.model.specs.Bep3.{num_pieces}
use borrow.Author.Rules.{rules}
use Rattle.geometry.proofs.pieces.num_pieces.Goals as goal

pub returns : goal.returns
unfolding num_pieces
returns c = c.parts_of.ensures
