-- `take_random_span` meets its contract. Assumes nothing.
use Rattle.pick_runs.proofs.AllLaws.{SpanRest, spans_start, spans_next, spans_end}
use Rattle.pick_new.proofs.RunLaws.{part_blocks}
use Rattle.pick_new.proofs.InLaws.{few_blocks}
use Rattle.pick_new.specs.Runs.{InWords}
use Rattle.model.specs.Lists.{nth}
use lib.ListN.{get_or}
use Prim.Native.Nat.{◌-◌}
use mathlib.Core.Bool.{false}
use mathlib.Core.Path.{◌∙◌}
use native.Mathlib.Omega.{arith}
use borrow.Author.Rules.{rules}
use Rattle.pick_runs.proofs.spans.take_random_span.Goals as goal

pub loop-k-init : goal.loop-k-init
loop-k-init c = spans_start (InWords c.args.s c.args.words.now) c.args.first c.args.end c.args.s.blocks c.args.t c.args.out.now c.args.ignored.now c.args.loops.now c.requires.first_le_end.0

pub bounds-ignored-k : goal.bounds-ignored-k
bounds-ignored-k c = omega (arith, c.requires.span_room.run.marks, (few_blocks c.requires.span_room.run.stands).1, c.requires.first_le_end.1)

pub marked-marks-requires : goal.marked-marks-requires
marked-marks-requires c = omega (arith, (few_blocks c.requires.span_room.run.stands).1, c.requires.first_le_end.1)

pub random_step-cur-requires : goal.random_step-cur-requires
random_step-cur-requires c = let y = (part_blocks c.args.first c.loop-k.k c.args.end c.args.s.blocks c.loop-k.invariant.since (omega arith)).1 in record {
  span_room = record {
    run = record {
      picker = c.requires.span_room.run.picker;
      stands = c.requires.span_room.run.stands;
      marks = c.loop-k.invariant.run.marks ∙ c.requires.span_room.run.marks;
      room = omega (arith, c.loop-k.invariant.run.few, c.requires.span_room.run.room);
      given = omega (arith, c.loop-k.invariant.run.given, c.requires.span_room.run.given);
    };
    counters = record { long = c.loop-k.invariant.run.counters ∙ c.requires.span_room.counters.long; blocks = omega (arith, c.loop-k.invariant.counts.blocks, c.requires.span_room.counters.blocks) };
  };
  k_lt_pieces = omega (arith, c.requires.first_le_end.1);
}

pub loop-k-preserved : goal.loop-k-preserved
unfolding nth
loop-k-preserved c = spans_next c.loop-k.invariant (get_or c.loop-k.ignored c.loop-k.k false) c.marked-marks.result (omega arith) c.marked-marks.ensures c.random_step-cur.ensures

pub shape_of-out : goal.shape_of-out
shape_of-out c = c.loop-k.invariant.run.kept.long

pub shape_of-ignored : goal.shape_of-ignored
shape_of-ignored c = c.loop-k.invariant.run.marks

pub shape_of-loops : goal.shape_of-loops
shape_of-loops c = c.loop-k.invariant.run.counters

pub returns : goal.returns
returns c = spans_end c.loop-k.invariant (omega arith)
