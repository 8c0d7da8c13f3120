-- `visit_extent` meets its contract: what is left of the extent is the whole of it. Assumes nothing.
use mathlib.Core.Path.{◌∙◌}
use Prim.Native.Nat.{◌+◌, ◌-◌}
use native.Mathlib.Omega.{arith}
use borrow.Author.Rules.{rules}
use Rattle.model.specs.Lists.{range}
use Rattle.memory_rows.specs.Lookup.{picker_in}
use Rattle.pick_state.specs.Requests.{request_of}
use Rattle.model.specs.Options.{extent_affinity}
use Rattle.model.specs.pick.Pick.{visit_outside}
use Rattle.pick_state.proofs.RangeLaws.{range_next, range_none}
use Rattle.pick_visits.proofs.StepLaws.{GoingBeside, beside_start, beside_next, beside_stop, beside_end, stepped_lengths, beside_lengths}
use Rattle.pick_extents.proofs.visit_extent.Goals as goal

pub loop-i-init : goal.loop-i-init
loop-i-init c = let r = request_of c.args.q c.args.bytes.now in
    beside_start (visit_outside r extent_affinity) (range c.args.first c.args.end) c.requires.piece_room c.requires.le_left.0

pub visit_outside-cur-requires : goal.visit_outside-cur-requires
visit_outside-cur-requires c = record {
  picks = c.requires.picks;
  piece_room = c.loop-i.invariant.now;
  le_left = c.loop-i.invariant.wanted;
}

pub shape_of-out-then-cur-eq0 : goal.shape_of-out-then-cur-eq0
shape_of-out-then-cur-eq0 c = (stepped_lengths c.visit_outside-cur.ensures c.loop-i.invariant.now).0 ∙ (beside_lengths c.loop-i.invariant c.requires.piece_room).0

pub shape_of-aside-then-cur-eq0 : goal.shape_of-aside-then-cur-eq0
shape_of-aside-then-cur-eq0 c = (stepped_lengths c.visit_outside-cur.ensures c.loop-i.invariant.now).1 ∙ (beside_lengths c.loop-i.invariant c.requires.piece_room).1

pub shape_of-ignored-then-cur-eq0 : goal.shape_of-ignored-then-cur-eq0
shape_of-ignored-then-cur-eq0 c = (stepped_lengths c.visit_outside-cur.ensures c.loop-i.invariant.now).2 ∙ (beside_lengths c.loop-i.invariant c.requires.piece_room).2

pub returns-then-cur-eq0 : goal.returns-then-cur-eq0
returns-then-cur-eq0 c = let o = range_next c.loop-i.i c.args.end (omega arith) in
    beside_stop c.loop-i.invariant c.loop-i.i (range (c.loop-i.i + 1) c.args.end) o c.visit_outside-cur.ensures c.if-cur-eq0.true

pub loop-i-smaller : goal.loop-i-smaller
loop-i-smaller c = omega arith

pub loop-i-preserved : goal.loop-i-preserved
loop-i-preserved c = let o = range_next c.loop-i.i c.args.end (omega arith) in
    beside_next c.loop-i.invariant c.loop-i.i (range (c.loop-i.i + 1) c.args.end) o c.visit_outside-cur.ensures c.if-cur-eq0.false

pub shape_of-out : goal.shape_of-out
shape_of-out c = (beside_lengths c.loop-i.invariant c.requires.piece_room).0

pub shape_of-aside : goal.shape_of-aside
shape_of-aside c = (beside_lengths c.loop-i.invariant c.requires.piece_room).1

pub shape_of-ignored : goal.shape_of-ignored
shape_of-ignored c = (beside_lengths c.loop-i.invariant c.requires.piece_room).2

pub returns : goal.returns
returns c = beside_end c.loop-i.invariant (range_none c.loop-i.i c.args.end (omega arith))
