-- `blocks_at` meets its contract: blocks are the parts of a piece. Assumes nothing.
use Rattle.model.specs.Bep3.{piece_blocks}
use borrow.Author.Rules.{rules}
use Rattle.geometry.proofs.blocks.blocks_at.Goals as goal

pub returns : goal.returns
unfolding piece_blocks
returns c = cc
