-- `walk_top` meets its contract: what is left of the walk is the whole of it. Assumes nothing.
use mathlib.Core.Path.{sym, ◌∙◌}
use Prim.Native.Nat.{◌+◌, ◌-◌, ◌<◌}
use lib.ListN.{drop}
use borrow.Author.Tests.{eq-eqb, ne_eqb}
use native.Mathlib.Omega.{arith}
use borrow.Author.Rules.{rules}
use Rattle.model.specs.Lists.{nth, len}
use Rattle.model.specs.State.{list_of, piece_at}
use Rattle.model.specs.Options.{prio_sequential_pieces}
use Rattle.model.specs.pick.Pick.{visit, leading_top}
use Rattle.memory_rows.specs.Lookup.{picker_in}
use Rattle.pick_state.specs.Requests.{request_of}
use Rattle.pick_visits.proofs.StepLaws.{GoingBeside, beside_start, beside_next, beside_stop, beside_end, stepped_lengths, beside_lengths}
use Rattle.pick_visits.proofs.VisitLaws.{picks_say}
use Rattle.pick_visits.proofs.ListLaws.{picks_words, place_piece, place_bit, top_next, top_stop, top_none, as_top}
use Rattle.pick_sequential.proofs.walk_top.Goals as goal

pub list_length-n-requires : goal.list_length-n-requires
list_length-n-requires c = c.requires.picks.asked.stands.bounds.spans.in_words

pub loop-k-init : goal.loop-k-init
loop-k-init c = let d = picker_in c.args.live c.args.rows.now c.args.words.now c.args.cells.now in
    let r = request_of c.args.q c.args.bytes.now in
    beside_start (visit r prio_sequential_pieces) (leading_top d (list_of d.listing)) c.requires.piece_room c.requires.le_left

pub list_place-i-requires : goal.list_place-i-requires
list_place-i-requires c = record {
  words_span = c.requires.picks.asked.stands.bounds.spans.in_words;
  k_bound = (omega arith, c.requires.picks.asked.stands.bounds.list);
}

pub priority-requires : goal.priority-requires
priority-requires c = let d = picker_in c.args.live c.args.rows.now c.args.words.now c.args.cells.now in
    let xs = list_of d.listing in
    let n = picks_words c.requires.picks (λ x. len (list_of x.listing)) c.list_length-n.result c.list_length-n.ensures.1 in
    let h : c.loop-k.k < len xs = omega arith in
    let e = picks_words c.requires.picks (λ x. nth 0 (list_of x.listing) c.loop-k.k) c.list_place-i.result c.list_place-i.ensures in
    record {
      cells_span = c.requires.picks.asked.stands.bounds.spans.in_cells;
      i_lt_pieces = place_piece c.requires.picks c.loop-k.k c.list_place-i.result h e;
    }

pub shape_of-out-then-priority-ne7 : goal.shape_of-out-then-priority-ne7
shape_of-out-then-priority-ne7 c = (beside_lengths c.loop-k.invariant c.requires.piece_room).0

pub shape_of-aside-then-priority-ne7 : goal.shape_of-aside-then-priority-ne7
shape_of-aside-then-priority-ne7 c = (beside_lengths c.loop-k.invariant c.requires.piece_room).1

pub shape_of-ignored-then-priority-ne7 : goal.shape_of-ignored-then-priority-ne7
shape_of-ignored-then-priority-ne7 c = (beside_lengths c.loop-k.invariant c.requires.piece_room).2

pub returns-then-priority-ne7 : goal.returns-then-priority-ne7
returns-then-priority-ne7 c = let d = picker_in c.args.live c.args.rows.now c.args.words.now c.args.cells.now in
    let r = request_of c.args.q c.args.bytes.now in
    let xs = list_of d.listing in
    let n = picks_words c.requires.picks (λ x. len (list_of x.listing)) c.list_length-n.result c.list_length-n.ensures.1 in
    let h : c.loop-k.k < len xs = omega arith in
    let e = picks_words c.requires.picks (λ x. nth 0 (list_of x.listing) c.loop-k.k) c.list_place-i.result c.list_place-i.ensures in
    let f = picks_say c.requires.picks (λ x. (piece_at x c.list_place-i.result).priority) c.priority.result c.priority.ensures in
    as_top r (beside_end c.loop-k.invariant (top_stop d xs c.loop-k.k c.list_place-i.result h e (ne_eqb (piece_at d c.list_place-i.result).priority 7 (λ z. c.if-priority-ne7.true (f ∙ z)))))

pub visit_listed-cur-requires : goal.visit_listed-cur-requires
visit_listed-cur-requires c = let d = picker_in c.args.live c.args.rows.now c.args.words.now c.args.cells.now in
    let r = request_of c.args.q c.args.bytes.now in
    let xs = list_of d.listing in
    let n = picks_words c.requires.picks (λ x. len (list_of x.listing)) c.list_length-n.result c.list_length-n.ensures.1 in
    let h : c.loop-k.k < len xs = omega arith in
    let e = picks_words c.requires.picks (λ x. nth 0 (list_of x.listing) c.loop-k.k) c.list_place-i.result c.list_place-i.ensures in
    record {
      picks = c.requires.picks;
      piece_room = c.loop-k.invariant.now;
      le_left = (c.loop-k.invariant.wanted, place_bit c.requires.picks c.loop-k.k c.list_place-i.result h e r);
    }

pub shape_of-out-then-cur-eq0 : goal.shape_of-out-then-cur-eq0
shape_of-out-then-cur-eq0 c = (stepped_lengths c.visit_listed-cur.ensures c.loop-k.invariant.now).0 ∙ (beside_lengths c.loop-k.invariant c.requires.piece_room).0

pub shape_of-aside-then-cur-eq0 : goal.shape_of-aside-then-cur-eq0
shape_of-aside-then-cur-eq0 c = (stepped_lengths c.visit_listed-cur.ensures c.loop-k.invariant.now).1 ∙ (beside_lengths c.loop-k.invariant c.requires.piece_room).1

pub shape_of-ignored-then-cur-eq0 : goal.shape_of-ignored-then-cur-eq0
shape_of-ignored-then-cur-eq0 c = (stepped_lengths c.visit_listed-cur.ensures c.loop-k.invariant.now).2 ∙ (beside_lengths c.loop-k.invariant c.requires.piece_room).2

pub returns-then-cur-eq0 : goal.returns-then-cur-eq0
returns-then-cur-eq0 c = let d = picker_in c.args.live c.args.rows.now c.args.words.now c.args.cells.now in
    let r = request_of c.args.q c.args.bytes.now in
    let xs = list_of d.listing in
    let n = picks_words c.requires.picks (λ x. len (list_of x.listing)) c.list_length-n.result c.list_length-n.ensures.1 in
    let h : c.loop-k.k < len xs = omega arith in
    let e = picks_words c.requires.picks (λ x. nth 0 (list_of x.listing) c.loop-k.k) c.list_place-i.result c.list_place-i.ensures in
    let f = picks_say c.requires.picks (λ x. (piece_at x c.list_place-i.result).priority) c.priority.result c.priority.ensures in
    let o = top_next d xs c.loop-k.k c.list_place-i.result h e (eq-eqb (piece_at d c.list_place-i.result).priority 7 (sym f ∙ c.if-priority-ne7.false)) in
    as_top r (beside_stop c.loop-k.invariant c.list_place-i.result (leading_top d (drop (c.loop-k.k + 1) xs)) o c.visit_listed-cur.ensures c.if-cur-eq0.true)

pub loop-k-smaller : goal.loop-k-smaller
loop-k-smaller c = omega arith

pub loop-k-preserved : goal.loop-k-preserved
loop-k-preserved c = let d = picker_in c.args.live c.args.rows.now c.args.words.now c.args.cells.now in
    let r = request_of c.args.q c.args.bytes.now in
    let xs = list_of d.listing in
    let n = picks_words c.requires.picks (λ x. len (list_of x.listing)) c.list_length-n.result c.list_length-n.ensures.1 in
    let h : c.loop-k.k < len xs = omega arith in
    let e = picks_words c.requires.picks (λ x. nth 0 (list_of x.listing) c.loop-k.k) c.list_place-i.result c.list_place-i.ensures in
    let f = picks_say c.requires.picks (λ x. (piece_at x c.list_place-i.result).priority) c.priority.result c.priority.ensures in
    let o = top_next d xs c.loop-k.k c.list_place-i.result h e (eq-eqb (piece_at d c.list_place-i.result).priority 7 (sym f ∙ c.if-priority-ne7.false)) in
    beside_next c.loop-k.invariant c.list_place-i.result (leading_top d (drop (c.loop-k.k + 1) xs)) o c.visit_listed-cur.ensures c.if-cur-eq0.false

pub shape_of-out : goal.shape_of-out
shape_of-out c = (beside_lengths c.loop-k.invariant c.requires.piece_room).0

pub shape_of-aside : goal.shape_of-aside
shape_of-aside c = (beside_lengths c.loop-k.invariant c.requires.piece_room).1

pub shape_of-ignored : goal.shape_of-ignored
shape_of-ignored c = (beside_lengths c.loop-k.invariant c.requires.piece_room).2

pub returns : goal.returns
returns c = let d = picker_in c.args.live c.args.rows.now c.args.words.now c.args.cells.now in
    let r = request_of c.args.q c.args.bytes.now in
    let xs = list_of d.listing in
    let n = picks_words c.requires.picks (λ x. len (list_of x.listing)) c.list_length-n.result c.list_length-n.ensures.1 in
    as_top r (beside_end c.loop-k.invariant (top_none d xs c.loop-k.k (omega arith)))
