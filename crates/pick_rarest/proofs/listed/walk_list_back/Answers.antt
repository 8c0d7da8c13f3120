-- `walk_list_back` meets its contract: what is left of the list is the whole of it. Assumes nothing.
use mathlib.Core.Path.{◌≡◌, sym, subst, ◌∙◌}
use Prim.Native.Nat.{ℕ, ◌-◌, ◌≤◌, ◌<◌}
use mathlib.Core.List.{List}
use lib.ListN.{take}
use native.Mathlib.Omega.{arith}
use borrow.Author.Rules.{rules}
use Rattle.model.specs.Lists.{nth, len, reversed}
use Rattle.model.specs.State.{list_of}
use Rattle.model.specs.pick.Pick.{reverse_rare_step}
use Rattle.memory_rows.specs.Lookup.{picker_in}
use Rattle.pick_state.specs.Requests.{request_of}
use Rattle.pick_visits.specs.Steps.{Counted}
use Rattle.pick_visits.proofs.StepLaws.{Going, going_start, going_next, going_stop, going_end, stepped_as}
use Rattle.pick_visits.proofs.VisitLaws.{counted_none, counted_then, counted_most}
use Rattle.pick_visits.proofs.ListLaws.{picks_words, place_bit, back_start, back_next, back_none, reverse_named, as_list_back}
use Rattle.pick_rarest.proofs.listed.walk_list_back.Goals as goal

pub list_length-n-requires : goal.list_length-n-requires
list_length-n-requires c = c.requires.picks.asked.stands.bounds.spans.in_words

pub loop-k-init : goal.loop-k-init
loop-k-init c = let d = picker_in c.args.live c.args.rows.now c.args.words.now c.args.cells.now in
    let r = request_of c.args.q c.args.bytes.now in
    let xs = list_of d.listing in
    let n = picks_words c.requires.picks (λ x. len (list_of x.listing)) c.list_length-n.result c.list_length-n.ensures.1 in
    let z : c.list_length-n.result - c.list_length-n.result ≡ 0 = omega arith in (
      omega arith,
      subst (λ (ys : List ℕ). Going (reverse_rare_step r) (reversed xs) ys d c.args.t c.args.t c.args.out.now c.args.aside.now c.args.ignored.now
          c.args.loops.now c.args.out.now c.args.aside.now c.args.ignored.now c.args.loops.now) (sym (back_start xs c.list_length-n.result n))
          (going_start (reverse_rare_step r) (reversed xs) c.requires.underway c.requires.le_left.0),
      counted_most (omega arith) (counted_none 2 c.args.loops.now),
    )

pub list_place-i-requires : goal.list_place-i-requires
list_place-i-requires c = record {
  words_span = c.requires.picks.asked.stands.bounds.spans.in_words;
  k_bound = (omega arith, c.requires.picks.asked.stands.bounds.list);
}

pub listed_step-cur-requires : goal.listed_step-cur-requires
listed_step-cur-requires c = let d = picker_in c.args.live c.args.rows.now c.args.words.now c.args.cells.now in
    let r = request_of c.args.q c.args.bytes.now in
    let xs = list_of d.listing in
    let n = picks_words c.requires.picks (λ x. len (list_of x.listing)) c.list_length-n.result c.list_length-n.ensures.1 in
    let h : c.loop-k.k - 1 < len xs = omega arith in
    let e = picks_words c.requires.picks (λ x. nth 0 (list_of x.listing) (c.loop-k.k - 1)) c.list_place-i.result c.list_place-i.ensures in
    record {
      picks = c.requires.picks;
      underway = c.loop-k.invariant.1.underway;
      le_left = (c.loop-k.invariant.1.wanted, omega arith, omega arith, place_bit c.requires.picks (c.loop-k.k - 1) c.list_place-i.result h e r);
    }

pub shape_of-out-then-cur-eq0 : goal.shape_of-out-then-cur-eq0
shape_of-out-then-cur-eq0 c = c.listed_step-cur.ensures.stepped.did.kept.long ∙ c.loop-k.invariant.1.left.kept.long

pub shape_of-aside-then-cur-eq0 : goal.shape_of-aside-then-cur-eq0
shape_of-aside-then-cur-eq0 c = c.listed_step-cur.ensures.stepped.did.long_aside ∙ c.loop-k.invariant.1.left.long_aside

pub shape_of-ignored-then-cur-eq0 : goal.shape_of-ignored-then-cur-eq0
shape_of-ignored-then-cur-eq0 c = c.listed_step-cur.ensures.stepped.did.long_ignored ∙ c.loop-k.invariant.1.left.long_ignored

pub shape_of-loops-then-cur-eq0 : goal.shape_of-loops-then-cur-eq0
shape_of-loops-then-cur-eq0 c = c.listed_step-cur.ensures.stepped.did.long_loops ∙ c.loop-k.invariant.1.left.long_loops

pub returns-then-cur-eq0 : goal.returns-then-cur-eq0
returns-then-cur-eq0 c = let d = picker_in c.args.live c.args.rows.now c.args.words.now c.args.cells.now in
    let r = request_of c.args.q c.args.bytes.now in
    let xs = list_of d.listing in
    let n = picks_words c.requires.picks (λ x. len (list_of x.listing)) c.list_length-n.result c.list_length-n.ensures.1 in
    let h : c.loop-k.k - 1 < len xs = omega arith in
    let e = picks_words c.requires.picks (λ x. nth 0 (list_of x.listing) (c.loop-k.k - 1)) c.list_place-i.result c.list_place-i.ensures in
    let o = back_next xs c.loop-k.k c.list_place-i.result (omega arith) (omega arith) e in record {
      stepped = as_list_back r (going_stop c.loop-k.invariant.1 c.list_place-i.result (reversed (take (c.loop-k.k - 1) xs)) o
          (stepped_as c.listed_step-cur.ensures.stepped (λ start y. reverse_named r c.list_place-i.result _)) c.if-cur-eq0.true);
      counted = counted_most (omega arith) (counted_then c.loop-k.invariant.2 c.listed_step-cur.ensures.counted);
    }

pub loop-k-smaller : goal.loop-k-smaller
loop-k-smaller c = omega arith

pub loop-k-preserved : goal.loop-k-preserved
loop-k-preserved c = let d = picker_in c.args.live c.args.rows.now c.args.words.now c.args.cells.now in
    let r = request_of c.args.q c.args.bytes.now in
    let xs = list_of d.listing in
    let n = picks_words c.requires.picks (λ x. len (list_of x.listing)) c.list_length-n.result c.list_length-n.ensures.1 in
    let h : c.loop-k.k - 1 < len xs = omega arith in
    let e = picks_words c.requires.picks (λ x. nth 0 (list_of x.listing) (c.loop-k.k - 1)) c.list_place-i.result c.list_place-i.ensures in
    let o = back_next xs c.loop-k.k c.list_place-i.result (omega arith) (omega arith) e in (
      omega arith,
      going_next c.loop-k.invariant.1 c.list_place-i.result (reversed (take (c.loop-k.k - 1) xs)) o (stepped_as c.listed_step-cur.ensures.stepped (λ start y. reverse_named r c.list_place-i.result _)) c.if-cur-eq0.false,
      counted_most (omega arith) (counted_then c.loop-k.invariant.2 c.listed_step-cur.ensures.counted),
    )

pub shape_of-out : goal.shape_of-out
shape_of-out c = c.loop-k.invariant.1.left.kept.long

pub shape_of-aside : goal.shape_of-aside
shape_of-aside c = c.loop-k.invariant.1.left.long_aside

pub shape_of-ignored : goal.shape_of-ignored
shape_of-ignored c = c.loop-k.invariant.1.left.long_ignored

pub shape_of-loops : goal.shape_of-loops
shape_of-loops c = c.loop-k.invariant.1.left.long_loops

pub returns : goal.returns
returns c = let d = picker_in c.args.live c.args.rows.now c.args.words.now c.args.cells.now in
    let r = request_of c.args.q c.args.bytes.now in
    let xs = list_of d.listing in
    record {
      stepped = as_list_back r (going_end c.loop-k.invariant.1 (back_none xs c.loop-k.k (omega arith)));
      counted = counted_most (omega arith) c.loop-k.invariant.2;
    }
