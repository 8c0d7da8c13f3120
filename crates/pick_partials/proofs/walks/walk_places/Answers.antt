-- `walk_places` meets its contract. Assumes nothing.
use Prim.Native.Nat.{ℕ, ◌+◌, ◌-◌, ◌<◌}
use native.Mathlib.Omega.{arith}
use lib.ListN.{take, drop, length-take}
use lib.Seq.{get_or-take}
use mathlib.Core.List.{◌∷◌}
use mathlib.Core.Path.{sym, ap, ◌∙◌}
use Rattle.pick_state.specs.Requests.{request_of}
use Rattle.memory_rows.specs.Lookup.{picker_in}
use Rattle.memory_layout.specs.Changes.{partial_in}
use Rattle.model.specs.pick.Pick.{partial_step}
use Rattle.pick_partials.specs.Phase.{walk_places}
use Rattle.pick_partials.proofs.WalkLaws.{Taking, taking_start, taking_next, taking_stop, taking_end, taking_lengths}
use Rattle.pick_partials.proofs.WalkLaws.{row_cons, drop_over}
use borrow.Author.Rules.{rules}
use Rattle.pick_partials.proofs.walks.walk_places.Goals as goal

pub loop-place-init : goal.loop-place-init
loop-place-init c = taking_start _ _ c.requires.partial_room c.requires.le_left.0

pub partial_step-cur-requires : goal.partial_step-cur-requires
partial_step-cur-requires c = let l = length-take c.args.many c.args.places.now in
    let h : c.loop-place.place-index < c.args.many = omega arith in
    let e = get_or-take c.args.many c.args.places.now c.loop-place.place-index 0 h in
    record {
      picks = c.requires.picks;
      partial_room = c.loop-place.invariant.now;
      le_left = (c.loop-place.invariant.wanted, omega (arith, e, c.u16_to_usize-k.ensures, c.requires.le_left.1.low c.loop-place.place-index h));
    }

pub shape_of-out-then-cur : goal.shape_of-out-then-cur
shape_of-out-then-cur c = c.partial_step-cur.auto.out ∙ (taking_lengths c.loop-place.invariant c.requires.partial_room).0

pub shape_of-aside-then-cur : goal.shape_of-aside-then-cur
shape_of-aside-then-cur c = c.partial_step-cur.auto.aside ∙ (taking_lengths c.loop-place.invariant c.requires.partial_room).1

pub returns-then-cur : goal.returns-then-cur
unfolding walk_places
returns-then-cur c = taking_stop c.loop-place.invariant _ _
    (row_cons c.loop-place.place-index (take c.args.many c.args.places.now) (omega arith)
    ∙ ap (λ (x : ℕ). x ∷ drop (c.loop-place.place-index + 1) (take c.args.many c.args.places.now)) (sym c.u16_to_usize-k.ensures))
    c.partial_step-cur.ensures c.if-cur.true

pub loop-place-preserved : goal.loop-place-preserved
loop-place-preserved c = taking_next c.loop-place.invariant _ _
    (row_cons c.loop-place.place-index (take c.args.many c.args.places.now) (omega arith)
    ∙ ap (λ (x : ℕ). x ∷ drop (c.loop-place.place-index + 1) (take c.args.many c.args.places.now)) (sym c.u16_to_usize-k.ensures))
    c.partial_step-cur.ensures c.if-cur.false

pub shape_of-out : goal.shape_of-out
shape_of-out c = (taking_lengths c.loop-place.invariant c.requires.partial_room).0

pub shape_of-aside : goal.shape_of-aside
shape_of-aside c = (taking_lengths c.loop-place.invariant c.requires.partial_room).1

pub returns : goal.returns
unfolding walk_places
returns c = taking_end c.loop-place.invariant
    (drop_over c.loop-place.place-index (take c.args.many c.args.places.now) (omega arith))
