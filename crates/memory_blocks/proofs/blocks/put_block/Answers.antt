-- `put_block` meets its contract. Assumes nothing.
use Rattle.memory_blocks.proofs.BlockLaws.{block_set}
use Rattle.memory_layout.proofs.Numbers.{flag_bit}
use borrow.Author.Rules.{rules}
use Rattle.memory_blocks.proofs.blocks.put_block.Goals as goal

pub returns : goal.returns
returns c = block_set c.args.s c.args.words.now c.args.cells.now c.requires.spans c.args.p c.args.j c.args.x c.from-has.result
    c.set_block_cell.new.cells c.set_block_cell-2.new.cells _ _ c.requires.p_lt_places.0 c.requires.p_lt_places.1 c.requires.state_bound
    (flag_bit _ _ c.from-has.ensures) c.set_block_cell.ensures c.set_block_cell-2.ensures
    c.set_block_cell-3.ensures c.set_peer_word.ensures
