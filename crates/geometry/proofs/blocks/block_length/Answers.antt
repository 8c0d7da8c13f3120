-- `block_length` meets its contract: a block is a part of its piece. Assumes nothing.
use Rattle.model.specs.Bep3.{piece_blocks, block_count, block_length_at}
use borrow.Author.Rules.{rules}
use Rattle.geometry.proofs.blocks.block_length.Goals as goal

pub part_length-requires : goal.part_length-requires
unfolding piece_blocks block_count
part_length-requires c = rw (c.piece_size.ensures, c.block_size.ensures) c.requires.j_bound

pub returns : goal.returns
unfolding block_length_at
returns c = cc
