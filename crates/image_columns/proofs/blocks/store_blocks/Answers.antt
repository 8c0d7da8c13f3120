-- `store_blocks` meets its contract: the columns start where the layout has them, and stand apart. Assumes nothing.
use native.Mathlib.Omega.{arith}
use Rattle.image_columns.proofs.ColumnLaws.{placed, peers_room, cells_room, states_apart, counts_apart, blocks_stored}
use Rattle.image_columns.proofs.blocks.store_blocks.Goals as goal

pub lay_blocks-requires : goal.lay_blocks-requires
lay_blocks-requires c = record {
  many_in_bounds = (c.requires.p_lt_places.3, peers_room _ _ _ c.requires.spans _ _ c.requires.p_lt_places.0 c.requires.p_lt_places.1 c.requires.p_lt_places.2 _ c.peers_start-peers.ensures);
  many_bound = (
    states_apart _ _ _ c.requires.spans _ _ c.requires.p_lt_places.0 c.requires.p_lt_places.1 c.requires.p_lt_places.2 _ _ c.cells_start-states.ensures c.cells_start-counts.ensures,
    counts_apart _ _ _ c.requires.spans _ _ c.requires.p_lt_places.0 c.requires.p_lt_places.1 c.requires.p_lt_places.2 _ _ c.cells_start-counts.ensures c.cells_start-has.ensures,
    cells_room _ _ _ c.requires.spans _ _ c.requires.p_lt_places.0 c.requires.p_lt_places.1 c.requires.p_lt_places.2 2 _ (omega arith) c.cells_start-has.ensures,
  );
}

pub returns : goal.returns
returns c = blocks_stored _ _ _ _ _ _ _ _ _ (placed _ _ _ c.requires.spans _ _ c.requires.p_lt_places.0 c.requires.p_lt_places.1 c.requires.p_lt_places.2) c.requires.p_lt_places.1 _ _ _ _
    c.peers_start-peers.ensures c.cells_start-states.ensures c.cells_start-counts.ensures c.cells_start-has.ensures c.lay_blocks.ensures.peers c.lay_blocks.ensures.others
