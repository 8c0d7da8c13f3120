-- `open_mark` meets its contract. Assumes nothing.
use native.Mathlib.Omega.{arith}
use Rattle.change_steps.proofs.RoomLaws.{insert_room}
use Rattle.change_vacant.proofs.OpenedLaws.{room_beside, opened_done}
use Rattle.change_vacant.proofs.openings.open_mark.Goals as goal

pub mark_opening-m-requires : goal.mark_opening-m-requires
mark_opening-m-requires c = let v = room_beside c.args.s c.args.live c.args.rows.now c.args.words.now c.args.cells.now c.args.i c.requires.rows_vacant in
    record {
      vacant_beside = v;
      live_lt_places = (c.requires.i_lt_pieces.1.1, c.requires.rows_vacant.long);
      i_lt_pieces = (c.requires.i_lt_pieces.0, c.requires.i_lt_pieces.1.0);
      state_bound = c.requires.state_bound;
      used_in_bounds = omega (arith, c.requires.min_draws_in_bounds);
    }

pub returns : goal.returns
returns c = let b = opened_done c.args.s c.args.live c.args.rows.now c.args.words.now c.args.cells.now c.args.i c.requires.rows_vacant _ c.args.q c.args.affinity c.args.j
    c.args.x _ _ c.mark_opening-m.result c.mark_opening-m.ensures in
    record {
      change = b;
      room = insert_room c.args.s c.args.live c.requires.i_lt_pieces.1.1 _;
    }
