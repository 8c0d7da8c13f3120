-- `open_arrived` meets its contract. Assumes nothing.
use mathlib.Core.Path.{sym, ◌∙◌}
use native.Mathlib.Omega.{arith}
use Rattle.memory_records.specs.Rows.{records_in}
use Rattle.change_steps.proofs.RoomLaws.{keep_room}
use Rattle.change_vacant.proofs.VacantLaws.{vacant_room, vacant_ignored, vacant_opened}
use Rattle.change_vacant.proofs.openings.open_arrived.Goals as goal

pub returns-then-flushed : goal.returns-then-flushed
returns-then-flushed c = let b = vacant_ignored c.args.s c.args.live c.args.rows.now c.args.words.now c.args.cells.now c.args.i c.requires.rows_vacant _ c.args.j _
    (sym (c.flushed.ensures.is (records_in c.args.live c.args.rows.now) c.args.words.now c.requires.rows_vacant.stands.bounds) ∙ c.if-flushed.true) in
    record {
      change = b;
      room = keep_room c.args.s c.args.live (omega (arith, c.requires.rows_vacant.many, c.requires.rows_vacant.stands.bounds.partials));
    }

pub open_mark-requires : goal.open_mark-requires
open_mark-requires c = let e = sym (c.flushed.ensures.is (records_in c.args.live c.args.rows.now) c.args.words.now c.requires.rows_vacant.stands.bounds) ∙ c.if-flushed.false in
    let room = vacant_room c.args.s c.args.live c.args.rows.now c.args.words.now c.args.cells.now c.args.i c.requires.rows_vacant c.requires.i_lt_pieces.0 e c.requires.i_value in
    record {
      rows_vacant = c.requires.rows_vacant;
      i_lt_pieces = (c.requires.i_lt_pieces.0, (c.requires.i_lt_pieces.1, room));
      state_bound = c.requires.state_bound;
      min_draws_in_bounds = c.requires.min_draws_in_bounds;
    }

pub returns : goal.returns
returns c = let e = sym (c.flushed.ensures.is (records_in c.args.live c.args.rows.now) c.args.words.now c.requires.rows_vacant.stands.bounds) ∙ c.if-flushed.false in
    let b = vacant_opened c.args.s c.args.live c.args.rows.now c.args.words.now c.args.cells.now c.args.i c.requires.rows_vacant _ c.args.j _ e _ _ _ _ _
    c.open_mark.ensures.change in
    record {
      change = b;
      room = c.open_mark.ensures.room;
    }
