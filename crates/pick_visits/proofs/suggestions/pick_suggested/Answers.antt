-- `pick_suggested` meets its contract: what is left of the walk is the whole of it. Assumes nothing.
use Prim.Native.Nat.{◌+◌, ◌-◌, ◌≤◌}
use mathlib.Core.Path.{◌∙◌}
use native.Mathlib.Omega.{arith}
use lib.ListN.{length, get_or, drop}
use lib.IntN.{pos}
use borrow.Author.Rules.{rules}
use Rattle.types.specs.Piece.{number_of}
use Rattle.model.specs.Lists.{each}
use Rattle.model.specs.pick.Pick.{suggest}
use Rattle.memory_rows.specs.Lookup.{picker_in}
use Rattle.pick_state.specs.Requests.{request_of}
use Rattle.pick_visits.specs.Steps.{Counted}
use Rattle.pick_visits.proofs.StepLaws.{Going, going_start, going_next, going_stop, going_end}
use Rattle.pick_visits.proofs.VisitLaws.{counted_none, counted_then, counted_most, suggestions_next, suggestions_none, suggested_number}
use Rattle.pick_visits.proofs.suggestions.pick_suggested.Goals as goal

pub loop-piece-init : goal.loop-piece-init
loop-piece-init c = (
  omega arith,
  going_start (suggest (request_of c.args.q c.args.bytes.now)) (each number_of c.args.suggestions.now) c.requires.underway c.requires.le_left.0,
  counted_none 1 c.args.loops.now,
)

pub suggest-cur-requires : goal.suggest-cur-requires
suggest-cur-requires c = record {
  picks = c.requires.picks;
  underway = c.loop-piece.invariant.1.underway;
  le_left = (c.loop-piece.invariant.1.wanted, omega arith);
}

pub shape_of-out-then-cur-eq0 : goal.shape_of-out-then-cur-eq0
shape_of-out-then-cur-eq0 c = c.suggest-cur.ensures.stepped.did.kept.long ∙ c.loop-piece.invariant.1.left.kept.long

pub shape_of-aside-then-cur-eq0 : goal.shape_of-aside-then-cur-eq0
shape_of-aside-then-cur-eq0 c = c.suggest-cur.ensures.stepped.did.long_aside ∙ c.loop-piece.invariant.1.left.long_aside

pub shape_of-ignored-then-cur-eq0 : goal.shape_of-ignored-then-cur-eq0
shape_of-ignored-then-cur-eq0 c = c.suggest-cur.ensures.stepped.did.long_ignored ∙ c.loop-piece.invariant.1.left.long_ignored

pub shape_of-loops-then-cur-eq0 : goal.shape_of-loops-then-cur-eq0
shape_of-loops-then-cur-eq0 c = c.suggest-cur.ensures.stepped.did.long_loops ∙ c.loop-piece.invariant.1.left.long_loops

pub returns-then-cur-eq0 : goal.returns-then-cur-eq0
returns-then-cur-eq0 c = let z = get_or c.args.suggestions.now c.loop-piece.piece-index (pos 0) in
    let e = suggested_number z c.i32_to_usize-i.result (omega arith) c.i32_to_usize-i.ensures in
    let n = suggestions_next number_of c.args.suggestions.now c.loop-piece.piece-index (pos 0) c.i32_to_usize-i.result (omega arith) e in record {
      stepped = going_stop c.loop-piece.invariant.1 c.i32_to_usize-i.result (each number_of (drop (c.loop-piece.piece-index + 1) c.args.suggestions.now)) n c.suggest-cur.ensures.stepped c.if-cur-eq0.true;
      counted = counted_most (omega arith) (counted_then c.loop-piece.invariant.2 c.suggest-cur.ensures.counted);
    }

pub loop-piece-preserved : goal.loop-piece-preserved
loop-piece-preserved c = let z = get_or c.args.suggestions.now c.loop-piece.piece-index (pos 0) in
    let e = suggested_number z c.i32_to_usize-i.result (omega arith) c.i32_to_usize-i.ensures in
    let n = suggestions_next number_of c.args.suggestions.now c.loop-piece.piece-index (pos 0) c.i32_to_usize-i.result (omega arith) e in (
      omega arith,
      going_next c.loop-piece.invariant.1 c.i32_to_usize-i.result (each number_of (drop (c.loop-piece.piece-index + 1) c.args.suggestions.now)) n c.suggest-cur.ensures.stepped c.if-cur-eq0.false,
      counted_then c.loop-piece.invariant.2 c.suggest-cur.ensures.counted,
    )

pub shape_of-out : goal.shape_of-out
shape_of-out c = c.loop-piece.invariant.1.left.kept.long

pub shape_of-aside : goal.shape_of-aside
shape_of-aside c = c.loop-piece.invariant.1.left.long_aside

pub shape_of-ignored : goal.shape_of-ignored
shape_of-ignored c = c.loop-piece.invariant.1.left.long_ignored

pub shape_of-loops : goal.shape_of-loops
shape_of-loops c = c.loop-piece.invariant.1.left.long_loops

pub returns : goal.returns
returns c = record {
  stepped = going_end c.loop-piece.invariant.1 (suggestions_none number_of c.args.suggestions.now c.loop-piece.piece-index (omega arith));
  counted = counted_most c.loop-piece.invariant.0 c.loop-piece.invariant.2;
}
