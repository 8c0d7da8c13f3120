-- `blocks_per_piece` meets its contract: blocks are the parts of a piece. Assumes nothing.
use Rattle.model.specs.Bep3.{whole_piece_blocks}
use borrow.Author.Rules.{rules}
use Rattle.geometry.proofs.blocks.blocks_per_piece.Goals as goal

pub returns : goal.returns
unfolding whole_piece_blocks
returns c = cc
