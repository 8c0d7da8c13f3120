-- `payload_blocks_in_piece` meets its contract. The piece is there, so blocks have a length. Assumes nothing.
use native.Mathlib.Omega.{arith}
use Rattle.model.specs.Bep3.{num_pieces}
use Rattle.geometry.specs.Numbers.{payload_blocks}
use Rattle.geometry.proofs.PartLaws.{part_some}
use Rattle.geometry.proofs.blocks.payload_blocks_in_piece.Goals as goal

pub blocks_filled-pads-requires : goal.blocks_filled-pads-requires
unfolding num_pieces
blocks_filled-pads-requires c = omega (arith, part_some _ _ _ c.requires)

pub returns : goal.returns
unfolding payload_blocks
returns c = cc
