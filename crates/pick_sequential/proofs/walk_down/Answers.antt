-- `walk_down` meets its contract: what is left of the range is the whole of it. Assumes nothing.
use mathlib.Core.Path.{◌≡◌, sym, subst, ◌∙◌}
use Prim.Native.Nat.{ℕ, ◌-◌, ◌≤◌}
use native.Mathlib.Omega.{arith}
use borrow.Author.Rules.{rules}
use Rattle.model.specs.Lists.{range_down}
use Rattle.model.specs.Options.{reverse_sequential}
use Rattle.model.specs.pick.Pick.{visit_below_top}
use Rattle.memory_rows.specs.Lookup.{picker_in}
use Rattle.pick_state.specs.Requests.{request_of}
use Rattle.pick_visits.proofs.StepLaws.{GoingBeside, beside_start, beside_next, beside_stop, beside_end, stepped_lengths, beside_lengths}
use Rattle.pick_visits.proofs.ListLaws.{picks_head, picks_cursors, down_next, down_none, as_down}
use Rattle.pick_sequential.proofs.walk_down.Goals as goal

pub cursor-requires : goal.cursor-requires
cursor-requires c = c.requires.picks.asked.stands.bounds.spans.in_words

pub reverse_cursor-requires : goal.reverse_cursor-requires
reverse_cursor-requires c = c.requires.picks.asked.stands.bounds.spans.in_words

pub loop-i-init : goal.loop-i-init
loop-i-init c = let d = picker_in c.args.live c.args.rows.now c.args.words.now c.args.cells.now in
    let r = request_of c.args.q c.args.bytes.now in
    let g = picks_cursors c.requires.picks in
    let hc = picks_head c.requires.picks (λ x. x.cursor) c.cursor.result c.cursor.ensures in
    let hr = picks_head c.requires.picks (λ x. x.reverse_cursor) c.reverse_cursor.result c.reverse_cursor.ensures in
    let e : d.reverse_cursor ≡ c.u64_to_usize-end.result = sym hr ∙ sym c.u64_to_usize-end.ensures in (
      omega (arith, e),
      subst (λ (n : ℕ). GoingBeside (visit_below_top r reverse_sequential) (range_down d.cursor d.reverse_cursor) (range_down d.cursor n) d c.args.t c.args.t
          c.args.out.now c.args.aside.now c.args.ignored.now c.args.out.now c.args.aside.now c.args.ignored.now) e
          (beside_start (visit_below_top r reverse_sequential) (range_down d.cursor d.reverse_cursor) c.requires.piece_room c.requires.le_left),
    )

pub visit_below_top-cur-requires : goal.visit_below_top-cur-requires
visit_below_top-cur-requires c = record {
  picks = c.requires.picks;
  piece_room = c.loop-i.invariant.1.now;
  le_left = (c.loop-i.invariant.1.wanted, omega arith);
}

pub shape_of-out-then-cur-eq0 : goal.shape_of-out-then-cur-eq0
shape_of-out-then-cur-eq0 c = (stepped_lengths c.visit_below_top-cur.ensures c.loop-i.invariant.1.now).0 ∙ (beside_lengths c.loop-i.invariant.1 c.requires.piece_room).0

pub shape_of-aside-then-cur-eq0 : goal.shape_of-aside-then-cur-eq0
shape_of-aside-then-cur-eq0 c = (stepped_lengths c.visit_below_top-cur.ensures c.loop-i.invariant.1.now).1 ∙ (beside_lengths c.loop-i.invariant.1 c.requires.piece_room).1

pub shape_of-ignored-then-cur-eq0 : goal.shape_of-ignored-then-cur-eq0
shape_of-ignored-then-cur-eq0 c = (stepped_lengths c.visit_below_top-cur.ensures c.loop-i.invariant.1.now).2 ∙ (beside_lengths c.loop-i.invariant.1 c.requires.piece_room).2

pub returns-then-cur-eq0 : goal.returns-then-cur-eq0
returns-then-cur-eq0 c = let d = picker_in c.args.live c.args.rows.now c.args.words.now c.args.cells.now in
    let r = request_of c.args.q c.args.bytes.now in
    let hc = picks_head c.requires.picks (λ x. x.cursor) c.cursor.result c.cursor.ensures in
    let o = down_next d.cursor c.loop-i.i (omega arith) in
    as_down r (beside_stop c.loop-i.invariant.1 (c.loop-i.i - 1) (range_down d.cursor (c.loop-i.i - 1)) o c.visit_below_top-cur.ensures c.if-cur-eq0.true)

pub loop-i-smaller : goal.loop-i-smaller
loop-i-smaller c = omega arith

pub loop-i-preserved : goal.loop-i-preserved
loop-i-preserved c = let d = picker_in c.args.live c.args.rows.now c.args.words.now c.args.cells.now in
    let r = request_of c.args.q c.args.bytes.now in
    let hc = picks_head c.requires.picks (λ x. x.cursor) c.cursor.result c.cursor.ensures in
    let o = down_next d.cursor c.loop-i.i (omega arith) in
    (omega arith, beside_next c.loop-i.invariant.1 (c.loop-i.i - 1) (range_down d.cursor (c.loop-i.i - 1)) o c.visit_below_top-cur.ensures c.if-cur-eq0.false)

pub shape_of-out : goal.shape_of-out
shape_of-out c = (beside_lengths c.loop-i.invariant.1 c.requires.piece_room).0

pub shape_of-aside : goal.shape_of-aside
shape_of-aside c = (beside_lengths c.loop-i.invariant.1 c.requires.piece_room).1

pub shape_of-ignored : goal.shape_of-ignored
shape_of-ignored c = (beside_lengths c.loop-i.invariant.1 c.requires.piece_room).2

pub returns : goal.returns
returns c = let d = picker_in c.args.live c.args.rows.now c.args.words.now c.args.cells.now in
    let r = request_of c.args.q c.args.bytes.now in
    let hc = picks_head c.requires.picks (λ x. x.cursor) c.cursor.result c.cursor.ensures in
    as_down r (beside_end c.loop-i.invariant.1 (down_none d.cursor c.loop-i.i (omega arith)))
