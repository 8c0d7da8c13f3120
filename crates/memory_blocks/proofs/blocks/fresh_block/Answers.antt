-- `fresh_block` meets its contract. Assumes nothing.
use Rattle.memory_blocks.proofs.BlockLaws.{block_fresh}
use borrow.Author.Rules.{rules}
use Rattle.memory_blocks.proofs.blocks.fresh_block.Goals as goal

pub returns : goal.returns
returns c = block_fresh c.args.s c.args.cells.now c.requires.cells_span c.args.p c.args.j c.args.state c.requires.p_lt_places.0 c.requires.p_lt_places.1 c.requires.state_bound c.set_block_cell.new.cells
    c.set_block_cell-2.new.cells _ c.set_block_cell.ensures c.set_block_cell-2.ensures
    c.set_block_cell-3.ensures
