-- `walk_up` meets its contract: what is left of the range is the whole of it. Assumes nothing.
use mathlib.Core.Path.{◌≡◌, sym, subst, ◌∙◌}
use Prim.Native.Nat.{ℕ, ◌+◌, ◌-◌}
use native.Mathlib.Omega.{arith}
use borrow.Author.Rules.{rules}
use Rattle.model.specs.Lists.{range}
use Rattle.model.specs.Options.{sequential_pieces}
use Rattle.model.specs.pick.Pick.{visit_below_top}
use Rattle.memory_rows.specs.Lookup.{picker_in}
use Rattle.pick_state.specs.Requests.{request_of}
use Rattle.pick_state.proofs.RangeLaws.{range_next, range_none}
use Rattle.pick_visits.proofs.StepLaws.{GoingBeside, beside_start, beside_next, beside_stop, beside_end, stepped_lengths, beside_lengths}
use Rattle.pick_visits.proofs.ListLaws.{picks_head, picks_cursors, as_up}
use Rattle.pick_sequential.proofs.walk_up.Goals as goal

pub reverse_cursor-requires : goal.reverse_cursor-requires
reverse_cursor-requires c = c.requires.picks.asked.stands.bounds.spans.in_words

pub cursor-requires : goal.cursor-requires
cursor-requires c = c.requires.picks.asked.stands.bounds.spans.in_words

pub loop-i-init : goal.loop-i-init
loop-i-init c = let d = picker_in c.args.live c.args.rows.now c.args.words.now c.args.cells.now in
    let r = request_of c.args.q c.args.bytes.now in
    let g = picks_cursors c.requires.picks in
    let hc = picks_head c.requires.picks (λ x. x.cursor) c.cursor.result c.cursor.ensures in
    let hr = picks_head c.requires.picks (λ x. x.reverse_cursor) c.reverse_cursor.result c.reverse_cursor.ensures in
    let e : d.cursor ≡ c.u64_to_usize-i.result = sym hc ∙ sym c.u64_to_usize-i.ensures in
    subst (λ (n : ℕ). GoingBeside (visit_below_top r sequential_pieces) (range d.cursor d.reverse_cursor) (range n d.reverse_cursor) d c.args.t c.args.t
    c.args.out.now c.args.aside.now c.args.ignored.now c.args.out.now c.args.aside.now c.args.ignored.now) e
    (beside_start (visit_below_top r sequential_pieces) (range d.cursor d.reverse_cursor) c.requires.piece_room c.requires.le_left)

pub visit_below_top-cur-requires : goal.visit_below_top-cur-requires
visit_below_top-cur-requires c = let d = picker_in c.args.live c.args.rows.now c.args.words.now c.args.cells.now in
    let g = picks_cursors c.requires.picks in
    let hr = picks_head c.requires.picks (λ x. x.reverse_cursor) c.reverse_cursor.result c.reverse_cursor.ensures in
    record {
      picks = c.requires.picks;
      piece_room = c.loop-i.invariant.now;
      le_left = (c.loop-i.invariant.wanted, omega arith);
    }

pub shape_of-out-then-cur-eq0 : goal.shape_of-out-then-cur-eq0
shape_of-out-then-cur-eq0 c = (stepped_lengths c.visit_below_top-cur.ensures c.loop-i.invariant.now).0 ∙ (beside_lengths c.loop-i.invariant c.requires.piece_room).0

pub shape_of-aside-then-cur-eq0 : goal.shape_of-aside-then-cur-eq0
shape_of-aside-then-cur-eq0 c = (stepped_lengths c.visit_below_top-cur.ensures c.loop-i.invariant.now).1 ∙ (beside_lengths c.loop-i.invariant c.requires.piece_room).1

pub shape_of-ignored-then-cur-eq0 : goal.shape_of-ignored-then-cur-eq0
shape_of-ignored-then-cur-eq0 c = (stepped_lengths c.visit_below_top-cur.ensures c.loop-i.invariant.now).2 ∙ (beside_lengths c.loop-i.invariant c.requires.piece_room).2

pub returns-then-cur-eq0 : goal.returns-then-cur-eq0
returns-then-cur-eq0 c = let d = picker_in c.args.live c.args.rows.now c.args.words.now c.args.cells.now in
    let r = request_of c.args.q c.args.bytes.now in
    let hr = picks_head c.requires.picks (λ x. x.reverse_cursor) c.reverse_cursor.result c.reverse_cursor.ensures in
    let o = range_next c.loop-i.i d.reverse_cursor (omega arith) in
    as_up r (beside_stop c.loop-i.invariant c.loop-i.i (range (c.loop-i.i + 1) d.reverse_cursor) o c.visit_below_top-cur.ensures c.if-cur-eq0.true)

pub loop-i-smaller : goal.loop-i-smaller
loop-i-smaller c = omega arith

pub loop-i-preserved : goal.loop-i-preserved
loop-i-preserved c = let d = picker_in c.args.live c.args.rows.now c.args.words.now c.args.cells.now in
    let r = request_of c.args.q c.args.bytes.now in
    let hr = picks_head c.requires.picks (λ x. x.reverse_cursor) c.reverse_cursor.result c.reverse_cursor.ensures in
    let o = range_next c.loop-i.i d.reverse_cursor (omega arith) in
    beside_next c.loop-i.invariant c.loop-i.i (range (c.loop-i.i + 1) d.reverse_cursor) o c.visit_below_top-cur.ensures c.if-cur-eq0.false

pub shape_of-out : goal.shape_of-out
shape_of-out c = (beside_lengths c.loop-i.invariant c.requires.piece_room).0

pub shape_of-aside : goal.shape_of-aside
shape_of-aside c = (beside_lengths c.loop-i.invariant c.requires.piece_room).1

pub shape_of-ignored : goal.shape_of-ignored
shape_of-ignored c = (beside_lengths c.loop-i.invariant c.requires.piece_room).2

pub returns : goal.returns
returns c = let d = picker_in c.args.live c.args.rows.now c.args.words.now c.args.cells.now in
    let r = request_of c.args.q c.args.bytes.now in
    let hr = picks_head c.requires.picks (λ x. x.reverse_cursor) c.reverse_cursor.result c.reverse_cursor.ensures in
    as_up r (beside_end c.loop-i.invariant (range_none c.loop-i.i d.reverse_cursor (omega arith)))
