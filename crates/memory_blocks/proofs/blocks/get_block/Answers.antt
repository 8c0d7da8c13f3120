-- `get_block` meets its contract. Assumes nothing.
use mathlib.Core.Path.{refl}
use Rattle.memory_layout.specs.Decode.{yes?}
use Rattle.memory_blocks.proofs.BlockLaws.{block_read_lem}
use borrow.Author.Rules.{rules}
use Rattle.memory_blocks.proofs.blocks.get_block.Goals as goal

pub returns : goal.returns
unfolding yes?
returns c = block_read_lem c.args.s c.args.words.now c.args.cells.now c.args.p c.args.j _ c.block_cell.result c.block_cell-has_peer.result
    c.state_number-state.ensures c.block_cell.ensures c.block_cell-num_peers.ensures refl c.block_cell-has_peer.ensures
    c.peer_word-peer.ensures
