-- The drawn piece, and what the walk from it leaves as it is: the draws used but one, and five of the counters. Assumes nothing.
use mathlib.Core.Path.{◌≡◌, refl, sym, ap, ◌∙◌}
use mathlib.Core.Bool.{Bool}
use mathlib.Core.List.{List}
use Prim.Native.Nat.{ℕ, suc, ◌+◌, ◌-◌, ◌≤◌, ◌<◌}
use native.Mathlib.Decide.{ℕ_discrete}
use native.Mathlib.Nat.{mod-lt}
use native.Mathlib.Numerals.{add-one}
use native.Mathlib.Omega.{arith}
use Rattle.model.specs.Lists.{nth}
use Rattle.model.specs.Options.{rand_start_loops, rand_loops}
use Rattle.model.specs.State.{Picker, pieces_in}
use Rattle.model.specs.list.Order.{Draws, draw}
use Rattle.model.specs.pick.Blocks.{PickRequest, PickState, with_out, with_backup, with_picker, ignore, flagged, steps}
use Rattle.model.specs.pick.Pick.{ring, pick_random}
use Rattle.model.proofs.pick.FrameLaws.{Blind, any_partial}
use Rattle.model.proofs.pick.PhaseLaws.{blind_kept, ring_keeps}
use Rattle.pick_laws.proofs.CounterLaws.{counter}
use Rattle.pick_laws.proofs.LoopFrame.{upto_random}
use Rattle.memory_records.specs.Rows.{records_in}
use Rattle.memory_layout.specs.declared.shape.Shape.{Shape}
use Rattle.ask_picker.proofs.AskedLaws.{some_piece}
use Rattle.pick_state.specs.declared.numbers.PickNumbers.{PickNumbers}
use Rattle.pick_state.specs.declared.request.PickRequest.{PickRequest as Request}
use Rattle.pick_state.specs.PickStates.{contiguous_of, state_of}
use Rattle.pick_state.specs.Room.{Underway}
use Rattle.pick_state.proofs.RoomLaws.{underway_same}
use Rattle.pick_free.specs.Picking.{Picks}
use Rattle.pick_visits.specs.Steps.{Stepped, Risen}
use Rattle.pick_random.specs.Rings.{drawn, RingCounted}

-- ---- the draw
-- a drawn number is at most the limit
pub draw_inside : (draws : Draws) (used n i : ℕ) → 1 ≤ n → i ≡ draw draws used (n - 1) → i < n
unfolding draw
draw_inside draws used n i l e = omega (arith, mod-lt (nth 0 draws used) {m = suc (n - 1)} (omega arith))

-- there is a piece to draw
pub picks_piece : {s : Shape} {live : ℕ} {rows words cells : List ℕ} {q : Request} → Picks s live rows words cells q → 1 ≤ s.pieces
picks_piece {s = s} {live = live} {rows = rows} {words = words} {cells = cells} p =
    some_piece s (records_in live rows) words cells p.asked.stands

-- one draw more changes nothing else
module _ (t r : PickNumbers) (e : r ≡ drawn t) where
  pub drawn_left : 1 ≤ t.left → 1 ≤ r.left
  unfolding drawn
  drawn_left l = omega (arith, ap (λ (v : PickNumbers). v.left) e)

  drawn_end : r.end ≡ t.end
  unfolding drawn
  drawn_end = ap (λ (v : PickNumbers). v.end) e

module _ (d : Picker) (t : PickNumbers) (out aside : List ℕ) (ignored : List Bool) (loops : List ℕ) (r : PickNumbers)
    (e : r ≡ drawn t) where
  drawn_is : (start : ℕ)
      → state_of start d r out aside ignored loops ≡ with_picker d (suc t.used) (state_of start d t out aside ignored loops)
  unfolding state_of with_picker drawn contiguous_of
  drawn_is start = ap (λ (v : PickNumbers). state_of start d v out aside ignored loops) e ∙ rw (add-one t.used) refl

  pub drawn_underway : Underway d t out aside ignored loops → Underway d r out aside ignored loops
  unfolding drawn
  drawn_underway u =
      underway_same u r loops (ap (λ (v : PickNumbers). v.left) e) (ap (λ (v : PickNumbers). v.asked) e)
      (ap (λ (v : PickNumbers). v.given) e)
      (drawn_end t r e) (ap (λ (v : PickNumbers). v.aside) e) refl

  -- the walk from the drawn piece
  module _ (draws : Draws) (a : PickRequest) (n first : ℕ) (p : pieces_in d ≡ n) (f : first ≡ draw draws t.used (n - 1)) {z : PickNumbers}
      {out' aside' : List ℕ} {ignored' : List Bool} {loops' : List ℕ}
      (w : Stepped (ring a first) d r z out aside ignored loops out' aside' ignored' loops') where
    random_is : (start : ℕ) → start ≤ t.end
        → state_of start d z out' aside' ignored' loops' ≡ pick_random draws a (state_of start d t out aside ignored loops)
    unfolding pick_random state_of
    random_is start l =
        let k = drawn_end t r e in
        w.did.is start (omega arith)
        ∙ (ap (ring a first) (drawn_is start)
        ∙ ap (λ (i : ℕ). ring a i (with_picker d (suc t.used) (state_of start d t out aside ignored loops)))
        (f ∙ ap (λ (m : ℕ). draw draws t.used (m - 1)) (sym p)))

    pub random_stepped : Stepped (pick_random draws a) d t z out aside ignored loops out' aside' ignored' loops'
    random_stepped =
        let g = w.did.kept in
        let k = drawn_end t r e in
        record {
          did = record {
            is = random_is;
            kept = record {
              rises = let l = g.rises in omega arith;
              long = g.long;
              others = λ i h. g.others i (λ x y. h (omega arith) y);
            };
            long_aside = w.did.long_aside;
            long_ignored = w.did.long_ignored;
            long_loops = w.did.long_loops;
          };
          underway = w.underway;
        }

-- ---- draws
used_blind : (m : ℕ) → Blind (λ w. w.used ≡ m)
unfolding with_out with_backup ignore
used_blind m = record { out = λ n r bs w h. h; backup = λ bs w h. h; marks = λ i w h. h }

pub ring-used : (a : PickRequest) (first : ℕ) (w : PickState) → (ring a first w).used ≡ w.used
unfolding flagged steps
ring-used a first w =
    ring_keeps a any_partial (λ v. v.used ≡ w.used) (blind_kept a (λ v. v.used ≡ w.used) (used_blind w.used) (λ f v h. h) (λ v h. h))
    (λ v h. h) first w refl

pub random_used : (a : PickRequest) (first : ℕ) (t : PickNumbers) {d : Picker} {z : PickNumbers} {out aside : List ℕ} {ignored : List Bool}
    {loops : List ℕ}
    {out' aside' : List ℕ} {ignored' : List Bool} {loops' : List ℕ} (r : PickNumbers) → r ≡ drawn t
    → Stepped (ring a first) d r z out aside ignored loops out' aside' ignored' loops' → z.used ≡ t.used + 1
unfolding state_of drawn
random_used a first t {d = d} {out = out} {aside = aside} {ignored = ignored} {loops = loops} r e w =
    ap (λ (v : PickState). v.used) (w.did.is 0 (omega arith))
    ∙ (ring-used a first (state_of 0 d r out aside ignored loops) ∙ ap (λ (v : PickNumbers). v.used) e)

-- ---- counters
pub random_risen : (draws : Draws) (a : PickRequest) {d : Picker} {t z : PickNumbers} {out aside : List ℕ} {ignored : List Bool}
    {loops : List ℕ}
    {out' aside' : List ℕ} {ignored' : List Bool} {loops' : List ℕ}
    → Stepped (pick_random draws a) d t z out aside ignored loops out' aside' ignored' loops' → RingCounted loops loops'
    → Risen 137573171200 loops loops'
unfolding counter state_of
random_risen draws a {d = d} {t = t} {out = out} {aside = aside} {ignored = ignored} {loops = loops} {loops' = loops'} w c =
    record { rise = go }
  where
    go : (k : ℕ) → nth 0 loops' k ≤ nth 0 loops k + 137573171200
    go k = elim (ℕ_discrete k rand_loops) [
      | yes p ↦ rw p c.blocks
      | no p ↦ elim (ℕ_discrete k rand_start_loops) [
        | yes q ↦ rw q c.starts
        | no q ↦
            let v = state_of 0 d t out aside ignored loops in
            let l = upto_random k (nth 0 loops k) a p q draws v (omega arith) in
            let e = ap (λ (u : PickState). nth 0 u.loops k) (w.did.is 0 (omega arith)) in
            omega arith
      ]
    ]
