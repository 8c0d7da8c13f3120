-- `add_download_piece` meets its contract. Assumes nothing.
use mathlib.Core.Path.{refl}
use Rattle.memory_opening.proofs.AddLaws.{bounds_shape}
use Rattle.change_adding.proofs.AddLaws.{rows_bounds, fresh_fits, add_beside, add_done}
use Rattle.change_adding.proofs.adding.add_download_piece.Goals as goal

pub blocks_in_piece-many-requires : goal.blocks_in_piece-many-requires
blocks_in_piece-many-requires c = record {
  words_span = (c.requires.vacant_beside.stands.works.bounds.spans.in_words, bounds_shape _ _ _ _ c.requires.vacant_beside.stands.works.bounds);
  i_lt_pieces = c.requires.i_lt_pieces;
}

pub payload_blocks-payload-requires : goal.payload_blocks-payload-requires
payload_blocks-payload-requires c = record {
  words_span = (c.requires.vacant_beside.stands.works.bounds.spans.in_words, bounds_shape _ _ _ _ c.requires.vacant_beside.stands.works.bounds);
  i_lt_pieces = c.requires.i_lt_pieces;
}

pub fresh_tally-t-requires : goal.fresh_tally-t-requires
fresh_tally-t-requires c = fresh_fits c.args.s c.args.i c.args.live c.args.rows.now c.args.words.now c.args.cells.now c.requires.vacant_beside _ _
    c.blocks_in_piece-many.ensures c.payload_blocks-payload.ensures

pub add_partial-partial-requires : goal.add_partial-partial-requires
add_partial-partial-requires c = record {
  in_bounds = rows_bounds c.args.s c.args.i c.args.live c.args.rows.now c.args.words.now c.args.cells.now c.requires.vacant_beside;
  live_value = (c.requires.vacant_beside.stands.count, c.requires.live_lt_places.0, c.requires.live_lt_places.1);
  i_lt_pieces = c.requires.i_lt_pieces;
  many_value = (c.blocks_in_piece-many.ensures, c.payload_blocks-payload.ensures);
}

pub update_piece_state-next-requires : goal.update_piece_state-next-requires
update_piece_state-next-requires c = record {
  works_beside = add_beside c.args.s c.args.i c.args.live c.args.rows.now c.args.words.now c.args.cells.now _ _ c.add_partial-partial.result
      c.add_partial-partial.ensures _ _ c.blocks_in_piece-many.ensures c.payload_blocks-payload.ensures _
      c.fresh_tally-t.ensures c.requires.vacant_beside;
  i_lt_pieces = c.requires.i_lt_pieces;
  used_in_bounds = c.requires.used_in_bounds;
}

pub returns : goal.returns
returns c = add_done c.args.s c.args.i c.args.live c.args.rows.now c.args.words.now c.args.cells.now _ _ c.add_partial-partial.result
    c.add_partial-partial.ensures _ _ c.blocks_in_piece-many.ensures c.payload_blocks-payload.ensures _
    c.fresh_tally-t.ensures _ c.args.used _ _ c.update_piece_state-next.result c.update_piece_state-next.ensures _ refl refl refl
