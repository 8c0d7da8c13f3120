-- `random_visit` meets its contract. Assumes nothing.
use mathlib.Core.Path.{sym, ◌∙◌}
use native.Mathlib.Omega.{arith}
use Rattle.memory_rows.specs.Lookup.{picker_in}
use Rattle.pick_state.specs.Requests.{request_of}
use Rattle.pick_state.proofs.RoomLaws.{working_small}
use Rattle.pick_free.proofs.FreeLaws.{picks_cells}
use Rattle.pick_blocks.proofs.AddingLaws.{picks_in}
use Rattle.pick_visits.proofs.VisitLaws.{picks_sound}
use Rattle.pick_lap.proofs.VisitLaws.{in_cells}
use Rattle.pick_lap.proofs.LapLaws.{few_marks, above_run, span_visit, visit_span, visit_piece}
use Rattle.pick_lap.proofs.visits.random_visit.Goals as goal

pub whole_span-requires : goal.whole_span-requires
whole_span-requires c = (
  picks_cells c.args.s c.args.live c.args.rows.now c.args.words.now c.args.cells.now c.args.q c.requires.picks,
  c.requires.lapping.place,
  omega (arith, (working_small c.requires.lapping.underway.working).2),
)

pub random_span-requires : goal.random_span-requires
random_span-requires c = let d = picker_in c.args.live c.args.rows.now c.args.words.now c.args.cells.now in
    let e = c.whole_span.ensures.is d (in_cells (picks_in c.requires.picks)) in
    record {
      span_visit = span_visit c.requires.picks c.requires.lapping;
      given_bound = above_run d c.args.x (sym e ∙ c.if-whole_span.true);
    }

pub shape_of-out-then-whole_span : goal.shape_of-out-then-whole_span
shape_of-out-then-whole_span c = (c.random_span.ensures (picker_in c.args.live c.args.rows.now c.args.words.now c.args.cells.now) (picks_in c.requires.picks) (picks_sound c.requires.picks) c.args.aside.now c.requires.lapping.underway).kept.long

pub shape_of-ignored-then-whole_span : goal.shape_of-ignored-then-whole_span
shape_of-ignored-then-whole_span c = (c.random_span.ensures (picker_in c.args.live c.args.rows.now c.args.words.now c.args.cells.now) (picks_in c.requires.picks) (picks_sound c.requires.picks) c.args.aside.now c.requires.lapping.underway).long_ignored

pub shape_of-loops-then-whole_span : goal.shape_of-loops-then-whole_span
shape_of-loops-then-whole_span c = (c.random_span.ensures (picker_in c.args.live c.args.rows.now c.args.words.now c.args.cells.now) (picks_in c.requires.picks) (picks_sound c.requires.picks) c.args.aside.now c.requires.lapping.underway).long_loops

pub returns-then-whole_span : goal.returns-then-whole_span
returns-then-whole_span c = let d = picker_in c.args.live c.args.rows.now c.args.words.now c.args.cells.now in
    let e = c.whole_span.ensures.is d (in_cells (picks_in c.requires.picks)) in
    visit_span (request_of c.args.q c.args.bytes.now) c.args.start (sym e ∙ c.if-whole_span.true)
    (c.random_span.ensures d (picks_in c.requires.picks) (picks_sound c.requires.picks) c.args.aside.now c.requires.lapping.underway)

pub random_piece-requires : goal.random_piece-requires
random_piece-requires c = let d = picker_in c.args.live c.args.rows.now c.args.words.now c.args.cells.now in
    let e = c.whole_span.ensures.is d (in_cells (picks_in c.requires.picks)) in record {
      picks = c.requires.picks;
      piece_room = record { loops = c.args.loops.now; underway = c.requires.lapping.underway };
      le_left = (c.requires.lapping.wanted, c.requires.lapping.place, few_marks c.requires.lapping);
      unmarked = (c.requires.unmarked, sym e ∙ c.if-whole_span.false);
    }

pub shape_of-out : goal.shape_of-out
shape_of-out c = (c.random_piece.ensures c.args.loops.now c.requires.lapping.underway).kept.long

pub shape_of-aside : goal.shape_of-aside
shape_of-aside c = (c.random_piece.ensures c.args.loops.now c.requires.lapping.underway).long_aside

pub shape_of-ignored : goal.shape_of-ignored
shape_of-ignored c = (c.random_piece.ensures c.args.loops.now c.requires.lapping.underway).long_ignored

pub returns : goal.returns
returns c = let d = picker_in c.args.live c.args.rows.now c.args.words.now c.args.cells.now in
    let e = c.whole_span.ensures.is d (in_cells (picks_in c.requires.picks)) in
    visit_piece (request_of c.args.q c.args.bytes.now) c.args.start (sym e ∙ c.if-whole_span.false)
    (c.random_piece.ensures c.args.loops.now c.requires.lapping.underway)
