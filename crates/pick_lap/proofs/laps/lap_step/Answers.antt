-- `lap_step` meets its contract. Assumes nothing.
use mathlib.Core.Path.{refl, ◌∙◌}
use native.Mathlib.Omega.{arith}
use borrow.Author.Rules.{rules}
use Rattle.memory_rows.specs.Lookup.{picker_in}
use Rattle.pick_state.proofs.RoomLaws.{working_marks}
use Rattle.pick_free.proofs.FreeLaws.{picks_cells}
use Rattle.pick_blocks.proofs.AddingLaws.{picks_in}
use Rattle.pick_lap.proofs.VisitLaws.{in_cells}
use Rattle.pick_lap.proofs.LapLaws.{lap_over, lap_unmarked, lap_lapping, lap_visited}
use Rattle.pick_lap.proofs.laps.lap_step.Goals as goal

pub skip-y-requires : goal.skip-y-requires
skip-y-requires c = let m = working_marks c.requires.lapping.underway.working in record {
  walk_cells = (
    record {
      picker = picker_in c.args.live c.args.rows.now c.args.words.now c.args.cells.now;
      stands = in_cells (picks_in c.requires.picks);
      picks = picks_cells c.args.s c.args.live c.args.rows.now c.args.words.now c.args.cells.now c.args.q c.requires.picks;
    },
    m.0,
    m.1,
  );
  place_lt_pieces = (c.requires.lapping.place, c.requires.start_lt_pieces.0);
  loops_bound = c.requires.start_lt_pieces.1;
}

pub lap_ends-requires : goal.lap_ends-requires
lap_ends-requires c = (
  picks_cells c.args.s c.args.live c.args.rows.now c.args.words.now c.args.cells.now c.args.q c.requires.picks,
  omega (arith, c.skip-y.ensures.place, (working_marks c.requires.lapping.underway.working).0, c.requires.picks.asked.stands.bounds.spans.in_words.sizes.many),
)

pub shape_of-loops-then-lap_ends : goal.shape_of-loops-then-lap_ends
shape_of-loops-then-lap_ends c = c.skip-y.ensures.long

pub returns-then-lap_ends : goal.returns-then-lap_ends
returns-then-lap_ends c = lap_over c.args.out.now c.args.aside.now c.skip-y.ensures (in_cells (picks_in c.requires.picks)) c.lap_ends.ensures c.if-lap_ends.true c.ended.result
    c.ended.ensures

pub random_visit-requires : goal.random_visit-requires
random_visit-requires c = let g = in_cells (picks_in c.requires.picks) in
    record {
      picks = c.requires.picks;
      lapping = lap_lapping c.args.out.now c.args.aside.now c.skip-y.ensures g c.lap_ends.ensures c.if-lap_ends.false c.marked.result c.marked.ensures c.requires.lapping;
      unmarked = lap_unmarked c.args.out.now c.args.aside.now c.skip-y.ensures g c.lap_ends.ensures c.if-lap_ends.false c.marked.result c.marked.ensures c.requires.lapping.start c.requires.lapping.base c.requires.lapping.sees;
    }

pub shape_of-out : goal.shape_of-out
shape_of-out c = c.random_visit.ensures.kept.long

pub shape_of-aside : goal.shape_of-aside
shape_of-aside c = c.random_visit.ensures.long_aside

pub shape_of-ignored : goal.shape_of-ignored
shape_of-ignored c = c.random_visit.ensures.long_ignored

pub shape_of-loops : goal.shape_of-loops
shape_of-loops c = c.random_visit.ensures.long_loops ∙ c.skip-y.ensures.long

pub returns : goal.returns
returns c = lap_visited c.args.out.now c.args.aside.now c.skip-y.ensures (in_cells (picks_in c.requires.picks)) c.lap_ends.ensures c.if-lap_ends.false
    c.marked.result c.marked.ensures c.random_visit.ensures
