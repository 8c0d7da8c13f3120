-- `store_priority` meets its contract. Assumes nothing.
use native.Mathlib.Omega.{arith}
use Rattle.change_steps.proofs.MendLaws.{begun_works}
use Rattle.change_priority.proofs.StepLaws.{listed_few}
use Rattle.change_priority.proofs.StateLaws.{rows_beside, stored_open, stored_shut}
use Rattle.change_priority.proofs.changes.store_priority.Goals as goal

pub list_priority-requires : goal.list_priority-requires
list_priority-requires c = record {
  stands_beside = rows_beside _ _ _ _ _ _ c.requires.rows_stand;
  i_lt_pieces = c.requires.i_lt_pieces;
}

pub returns-then-state : goal.returns-then-state
returns-then-state c = stored_open c.args.s _ c.args.i c.args.priority c.args.turned c.args.words.now c.args.cells.now c.state.result c.state.ensures
    c.if-state.true _ _ c.list_priority.result c.list_priority.ensures _ c.requires.rows_stand.stands

pub list_priority-used-requires : goal.list_priority-used-requires
list_priority-used-requires c = record {
  stands_beside = rows_beside _ _ _ _ _ _ c.requires.rows_stand;
  i_lt_pieces = c.requires.i_lt_pieces;
}

pub update_piece_state-requires : goal.update_piece_state-requires
update_piece_state-requires c = let b = rows_beside _ _ _ _ _ _ c.requires.rows_stand in
    let m = listed_few c.args.s _ c.args.i c.args.priority c.args.turned c.args.words.now c.args.cells.now _ _ c.list_priority-used.result
    c.list_priority-used.ensures b in record {
      works_beside = begun_works c.args.s _ c.args.words.now c.args.cells.now _ _ c.list_priority-used.result c.list_priority-used.ensures b;
      i_lt_pieces = c.requires.i_lt_pieces.0;
      used_in_bounds = omega (arith, m, c.requires.min_draws_in_bounds);
    }

pub returns : goal.returns
returns c = stored_shut c.args.s _ c.args.i c.args.priority c.args.turned c.args.words.now c.args.cells.now c.state.result c.state.ensures
    c.requires.i_lt_pieces.0 c.if-state.false c.args.live c.args.rows.now c.args.counts.now c.requires.rows_stand c.tally_at-t.result c.tally_at-t.ensures _ _
    c.list_priority-used.result c.list_priority-used.ensures _ _ c.update_piece_state.result c.update_piece_state.ensures
