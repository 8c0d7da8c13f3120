-- `ring` meets its contract: what is left of its turns is the whole of them. Assumes nothing.
use mathlib.Core.Path.{sym, ◌∙◌}
use native.Mathlib.Omega.{arith}
use borrow.Author.Rules.{rules}
use borrow.Author.Tests.{not-true, not-false}
use Rattle.model.specs.pick.Pick.{ring_fuel}
use Rattle.memory_rows.specs.Lookup.{picker_in}
use Rattle.pick_state.specs.Requests.{request_of}
use Rattle.pick_blocks.proofs.AddingLaws.{picks_in}
use Rattle.pick_runs.specs.Spans.{marks}
use Rattle.pick_visits.proofs.VisitLaws.{picks_sound}
use Rattle.pick_walk.proofs.TellLaws.{cells_pieces}
use Rattle.pick_lap.proofs.VisitLaws.{in_cells}
use Rattle.pick_random.proofs.RingRest.{RingRest, turns_from, begun-work, begun_underway, rings_start, rings_starts, rings_lapping}
use Rattle.pick_random.proofs.RingRest.{rings_less, rings_next, rings_counted, rings_end, rings_named}
use Rattle.pick_random.proofs.ring.ring.Goals as goal

pub loop-s-init : goal.loop-s-init
loop-s-init c = rings_start (request_of c.args.q c.args.bytes.now) c.args.start c.args.s c.requires.underway (picks_sound c.requires.picks) (cells_pieces (in_cells (picks_in c.requires.picks)))
    c.requires.le_left.1 c.requires.le_left.0 c.begun-x.result c.begun-x.ensures

pub lap_step-x-requires : goal.lap_step-x-requires
lap_step-x-requires c = let e = sym c.walk_over.ensures ∙ not-true c.walk_over.result c.loop-s-test.true-raw in record {
  picks = c.requires.picks;
  lapping = rings_lapping c.loop-s.invariant e (begun_underway c.args.start c.args.t c.begun-x.result c.begun-x.ensures c.requires.underway) c.requires.le_left.3 (omega arith);
  start_lt_pieces = (c.requires.le_left.1, rings_starts c.loop-s.invariant e c.requires.le_left.2 (omega arith));
}

pub loop-s-smaller : goal.loop-s-smaller
loop-s-smaller c = rings_less c.loop-s.invariant (sym c.walk_over.ensures ∙ not-true c.walk_over.result c.loop-s-test.true-raw) c.lap_step-x.ensures

pub loop-s-preserved : goal.loop-s-preserved
loop-s-preserved c = rings_next c.loop-s.invariant (sym c.walk_over.ensures ∙ not-true c.walk_over.result c.loop-s-test.true-raw) c.lap_step-x.ensures

pub shape_of-out : goal.shape_of-out
shape_of-out c = c.loop-s.invariant.kept.long

pub shape_of-aside : goal.shape_of-aside
shape_of-aside c = c.loop-s.invariant.long_aside

pub shape_of-ignored : goal.shape_of-ignored
shape_of-ignored c = c.loop-s.invariant.long_ignored

pub shape_of-loops : goal.shape_of-loops
shape_of-loops c = c.loop-s.invariant.long_loops

pub returns : goal.returns
returns c = let e = sym c.walk_over.ensures ∙ not-false c.walk_over.result c.loop-s-test.false-raw in record {
  stepped = rings_named (request_of c.args.q c.args.bytes.now) c.args.start (begun-work c.args.start c.args.t c.begun-x.result c.begun-x.ensures)
      (rings_end c.loop-s.invariant (begun_underway c.args.start c.args.t c.begun-x.result c.begun-x.ensures c.requires.underway) e);
  ring_counted = rings_counted c.loop-s.invariant;
}
