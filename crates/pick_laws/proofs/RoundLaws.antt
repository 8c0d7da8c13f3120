-- Round the torrent: a step brings the start nearer or reaches it, so that the turns of the skipping suffice. Assumes nothing.
use mathlib.Core.Path.{◌≡◌, refl}
use mathlib.Core.Logic.{◌⊎◌, inl, inr, ⊎_elim}
use Prim.Native.Nat.{ℕ, zero, suc, ◌+◌, ◌-◌, ◌≤◌, ◌<◌}
use native.Mathlib.Decide.{ℕ_discrete, dec_le}
use native.Mathlib.Omega.{arith}
use mathlib.Core.Bool.{true, false, cond}
use lib.Dec.{eqb, ltb, leb}
use borrow.Author.Tests.{eqb-false, eq-eqb, ne_eqb, lt-ltb, le-ltb, leb-true, leb-false}
use Rattle.model.specs.Lists.{from, range, any, member}
use Rattle.model.specs.State.{Picker, pieces_in, blocks_in_piece}
use Rattle.model.specs.pick.Blocks.{PickRequest, steps, Span, pieces_of}
use Rattle.model.specs.pick.Pick.{stands_open, onward, RandomWalk, skip_step, skip_done, skip}
use Rattle.model.proofs.base.WalkLaws.{repeat_ends}
use Rattle.pick_laws.proofs.SpanLaws.{Around}
use Rattle.model.proofs.base.Truths.{or_no_left}
use Rattle.model.proofs.base.Phases.{cond_arms}

-- n pieces, each with a block
pub record Torrent (n : ℕ) (q : Picker) : Type 0 where
  pub many : pieces_in q ≡ n
  pub blocks : (i : ℕ) → i < n → 1 ≤ blocks_in_piece q i

-- the steps from piece p to the start, at least one
unfoldable pub far : ℕ → ℕ → ℕ → ℕ
far n start p = cond (ltb p start) (start - p) (n - p + start)

module _ (n start : ℕ) (h : start < n) where
  far_below : (p : ℕ) → p < start → far n start p ≡ start - p
  unfolding far
  far_below p l = rw (lt-ltb p start l)

  far_above : (p : ℕ) → start ≤ p → far n start p ≡ n - p + start
  unfolding far
  far_above p l = rw (le-ltb p start l)

  -- at least one step, and no more than there are pieces
  pub far_some : (p : ℕ) → p < n → (1 ≤ far n start p) × (far n start p ≤ n)
  far_some p l = elim (dec_le start p) [
    | yes g ↦ let e = far_above p g in (omega arith, omega arith)
    | no g ↦ let e = far_below p (omega arith) in (omega arith, omega arith)
  ]

  -- a step brings the start nearer, unless it reaches it
  pub far_next : (q : Picker) → pieces_in q ≡ n → (p : ℕ) → p < n
      → (onward q p < n) × ((onward q p ≡ start) ⊎ (far n start (onward q p) + 1 ≡ far n start p))
  unfolding onward
  far_next q m p l =
      cond_arms (λ x. (x < n) × ((x ≡ start) ⊎ (far n start x + 1 ≡ far n start p))) (leb (pieces_in q) (suc p)) 0 (suc p)
      (λ e. (omega arith, let g = leb-true (pieces_in q) (suc p) e in wrap (omega arith)))
      (λ e. let g = leb-false (pieces_in q) (suc p) e in (omega arith, up (omega arith)))
    where
      wrap : suc p ≡ n → (0 ≡ start) ⊎ (far n start 0 + 1 ≡ far n start p)
      wrap e = elim (ℕ_discrete 0 start) [
        | yes z ↦ inl z
        | no z ↦ inr (omega (arith, far_below 0 (omega arith), far_above p (omega arith)))
      ]

      up : suc p < n → (suc p ≡ start) ⊎ (far n start (suc p) + 1 ≡ far n start p)
      up e = elim (ℕ_discrete (suc p) start) [
        | yes z ↦ inl z
        | no z ↦ inr (elim (dec_le start p) [
          | yes g ↦ omega (arith, far_above p g, far_above (suc p) (omega arith))
          | no g ↦ omega (arith, far_below p (omega arith), far_below (suc p) (omega arith))
        ])
      ]

  -- so do several that do not pass it
  pub far_on : (p r : ℕ) → p ≤ r → r < n → (p < start → r < start) → far n start r ≤ far n start p
  far_on p r l m f = elim (dec_le start p) [
    | yes g ↦ omega (arith, far_above p g, far_above r (omega arith))
    | no g ↦ let k = f (omega arith) in omega (arith, far_below p (omega arith), far_below r k)
  ]

-- ---- the pieces of a span
member-from : (i k m : ℕ) → k ≤ i → i < k + m → member i (from k m) ≡ true
unfolding member any from
member-from i k zero l h = absurd (omega arith)
member-from i k (suc m) l h = elim (ℕ_discrete i k) [
  | yes e ↦ rw (eq-eqb i k e)
  | no e ↦ rw (ne_eqb i k e) (member-from i (suc k) m (omega arith) (omega arith))
]

-- the piece that a span lies around is one of its pieces
pub member_span : (q : Picker) (i m : ℕ) (x : Span) → Around q i m x → member i (pieces_of x) ≡ true
unfolding pieces_of range
member_span q i m x h = let f = h.from in let t = h.to in member-from i x.first (x.end - x.first) f (omega arith)

-- ---- skipping
-- before it is done skipping has not come back
pub not_done : (a : PickRequest) (y : RandomWalk) → skip_done a y ≡ false → y.back ≡ false
unfolding skip_done
not_done a y e = or_no_left y.back (stands_open a y.place y.work) e

-- the steps to the start, none where skipping came back to it
unfoldable pub ahead : ℕ → ℕ → RandomWalk → ℕ
ahead n start x = cond x.back 0 (far n start x.place)

module _ (n start : ℕ) (h : start < n) where
  ahead_out : (y : RandomWalk) → y.back ≡ false → ahead n start y ≡ far n start y.place
  unfolding ahead
  ahead_out y e = rw e

  -- a step of it brings the start nearer
  pub skip_nearer : (y : RandomWalk) → pieces_in y.work.picker ≡ n → y.place < n → y.back ≡ false → ahead n start (skip_step start y) + 1 ≤ ahead n start y
  unfolding skip_step ahead
  skip_nearer y m l e =
      let p = onward y.work.picker y.place in
      let f = far_next n start h y.work.picker m y.place l in
      rw e (cond_arms (λ z. z + 1 ≤ far n start y.place) (eqb p start) 0 (far n start p)
      (λ q. (far_some n start h y.place l).0)
      (λ q. ⊎_elim (λ z. absurd (eqb-false p start q z)) (λ z. omega arith) f.1))

  skip_inside : (y : RandomWalk) → (pieces_in y.work.picker ≡ n) × (y.place < n)
      → (pieces_in (skip_step start y).work.picker ≡ n) × ((skip_step start y).place < n)
  unfolding skip_step steps
  skip_inside y g = (g.0, (far_next n start h y.work.picker g.0 y.place g.1).0)

  turns_suffice : (a : PickRequest) (x : RandomWalk) → pieces_in x.work.picker ≡ n → x.place < n → skip_done a (skip a start x) ≡ true
  unfolding skip
  turns_suffice a x m l =
      let y : RandomWalk = record { work = x.work; place = x.place; back = false; seen = x.seen; over = x.over } in
      repeat_ends (λ z. (pieces_in z.work.picker ≡ n) × (z.place < n)) (skip_step start) (skip_done a) (λ z. ahead n start z - 1)
      (λ z e g. (
        skip_inside z g,
        λ f.
            let k = skip_nearer z g.0 g.1 (not_done a z e) in
            let o = ahead_out (skip_step start z) (not_done a (skip_step start z) f) in
            let i = far_some n start h (skip_step start z).place (skip_inside z g).1 in
            omega arith,
      ))
      (pieces_in x.work.picker) y (m, l) (λ e. let o = ahead_out y refl in let i = far_some n start h x.place l in omega arith)

-- the turns of the skipping suffice: it ends at a piece that may be picked, or back at the start
pub skip_ends : (a : PickRequest) (start : ℕ) (x : RandomWalk) → start < pieces_in x.work.picker → x.place < pieces_in x.work.picker
    → skip_done a (skip a start x) ≡ true
skip_ends a start x h l = turns_suffice (pieces_in x.work.picker) start h a x refl l
