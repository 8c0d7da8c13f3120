-- `open_piece` meets its contract. Assumes nothing.
use native.Mathlib.Omega.{arith}
use Rattle.change_opening.proofs.OpenLaws.{state_beside, state_draws, extent_beside, open_done}
use Rattle.change_opening.proofs.openings.open_piece.Goals as goal

pub record_if_asked-requires : goal.record_if_asked-requires
record_if_asked-requires c = record {
  works_beside = state_beside c.args.s _ c.args.i c.args.q c.args.affinity c.args.live c.args.rows.now c.args.words.now c.args.cells.now c.args.used _ _
      c.set_state-next.result c.set_state-next.ensures c.requires.vacant_beside;
  i_lt_pieces = c.requires.i_lt_pieces;
}

pub add_download_piece-requires : goal.add_download_piece-requires
add_download_piece-requires c = let d = state_draws c.args.s _ c.args.i c.args.q c.args.affinity c.args.live c.args.rows.now c.args.words.now c.args.cells.now c.args.used _ _
    c.set_state-next.result c.set_state-next.ensures c.requires.vacant_beside in record {
      vacant_beside = extent_beside c.args.s _ c.args.i c.args.q c.args.affinity c.args.live c.args.rows.now c.args.words.now c.args.cells.now c.args.used _ _
          c.set_state-next.result c.set_state-next.ensures _ c.record_if_asked.ensures c.requires.vacant_beside;
      live_lt_places = c.requires.live_lt_places;
      i_lt_pieces = c.requires.i_lt_pieces;
      used_in_bounds = omega (arith, d, c.requires.used_in_bounds);
    }

pub returns : goal.returns
returns c = open_done c.args.s _ c.args.i c.args.q c.args.affinity c.args.live c.args.rows.now c.args.words.now c.args.cells.now c.args.used _ _
    c.set_state-next.result c.set_state-next.ensures _ c.record_if_asked.ensures _ _ c.add_download_piece.result
    c.add_download_piece.ensures
