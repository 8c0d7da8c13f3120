-- A list with each piece that has a rank once, ranks never falling, is so under the new ranks when it is mended after one piece's rank changed.
use mathlib.Core.Path.{◌≡◌, refl, sym, ap, ap₂, ◌∙◌}
use mathlib.Core.Logic.{◌≢◌}
use Prim.Native.Nat.{ℕ, zero, suc, ◌+◌, ◌≤◌, ◌<◌}
use native.Mathlib.Nat.{le_of_suc-le-suc}
use native.Mathlib.Decide.{ℕ_discrete, dec_le}
use native.Mathlib.Omega.{arith}
use mathlib.Core.List.{List, [], ◌∷◌, map}
use lib.ListN.{length, get_or, set}
use lib.Dec.{eqb, ltb}
use mir.Facts.{eqb_yes, eqb_no}
use borrow.Author.Tests.{eq-eqb}
use Rattle.model.specs.Lists.{bit, count, place_of}
use Rattle.model.specs.list.Order.{removed, added, changed, updated}
use Rattle.model.specs.list.Listed.{Listed}
use Rattle.model.proofs.base.Counts.{cond_both, lt_bit, ge_bit, eq_bit, ne_bit, stands, place_in, at_place}
use Rattle.model.proofs.list.GroupTurns.{keys_removed, count-removed}
use Rattle.model.proofs.list.GroupRise.{Rising, rising_is, rising_without}
use Rattle.model.proofs.list.GroupMoves.{rising_added, count-added, without_set, changed_kept}

-- ---- other ranks
-- a list has the same ranks where those of its pieces are the same
pub keys_same : (b b' : ℕ → ℕ) (l : List ℕ) → ((y : ℕ) → 1 ≤ count (eqb y) l → b' y ≡ b y) → map b' l ≡ map b l
unfolding count
keys_same b b' [] f = refl
keys_same b b' (x ∷ xs) f =
    ap₂ (λ (v : ℕ) (vs : List ℕ). v ∷ vs) (f x (omega (arith, eq_bit x x refl))) (keys_same b b' xs (λ y g. f y (omega arith)))

-- a list that is listed under some ranks is listed under others that are the same for each of the n pieces
pub listed_same : (b b' : ℕ → ℕ) (n : ℕ) (l : List ℕ) → ((y : ℕ) → y < n → b' y ≡ b y) → Listed b n l → Listed b' n l
listed_same b b' n l f g = record {
  order = (rising_is b' l).1 (rw (keys_same b b' l here) ((rising_is b l).0 g.order));
  within = λ y h. rw (f y h) (g.within y h);
  beyond = g.beyond;
}
  where
    here : (y : ℕ) → 1 ≤ count (eqb y) l → b' y ≡ b y
    here y s = elim (dec_le n y) [ yes p ↦ absurd (omega (arith, g.beyond y p)) | no p ↦ f y (omega arith) ]

module _ (b b' : ℕ → ℕ) (x : ℕ) (agree : (y : ℕ) → y ≢ x → b' y ≡ b y) where
  -- a list without x has the same ranks
  keys_apart : (l : List ℕ) → count (eqb x) l ≡ 0 → map b' l ≡ map b l
  keys_apart l e = keys_same b b' l (λ y g. agree y (λ (p : y ≡ x). let k : 1 ≤ count (eqb x) l = rw p at g in absurd (omega arith)))

  -- one that has it once has the same ranks elsewhere
  keys_once : (l : List ℕ) (i : ℕ) → i < length l → get_or l i 0 ≡ x → count (eqb x) l ≡ 1 → set (map b' l) i (b x) ≡ map b l
  unfolding count
  keys_once [] i h q e = absurd (omega arith)
  keys_once (y ∷ ys) zero h q e =
      ap₂ (λ (v : ℕ) (vs : List ℕ). v ∷ vs) (ap b (sym q)) (keys_apart ys (omega (arith, eq_bit x y (sym q))))
  keys_once (y ∷ ys) (suc i) h q e = elim (ℕ_discrete y x) [
    | yes p ↦ absurd (omega (arith, eq_bit x y (sym p), stands x 0 ys i (le_of_suc-le-suc h) q))
    | no p ↦ ap₂ (λ (v : ℕ) (vs : List ℕ). v ∷ vs) (agree y p) (keys_once ys i (le_of_suc-le-suc h) q (omega (arith, ne_bit x y (λ r. p (sym r)))))
  ]

  module _ (n : ℕ) (l : List ℕ) (h : x < n) (g : Listed b n l) where
    old_rises : Rising 0 (map b l)
    old_rises = (rising_is b l).0 g.order

    -- the bit of another piece's rank is what it was
    other : (y : ℕ) → y ≢ x → bit (ltb 0 (b' y)) ≡ bit (ltb 0 (b y))
    other y p = ap (λ (k : ℕ). bit (ltb 0 k)) (agree y p)

    -- a list with the counts of l but for x, and there the new one
    listed_by : (m : List ℕ) → Rising 0 (map b' m) → count (eqb x) m ≡ bit (ltb 0 (b' x))
        → ((y : ℕ) → y ≢ x → count (eqb y) m ≡ count (eqb y) l) → Listed b' n m
    listed_by m r e f = record {
      order = (rising_is b' m).1 r;
      within = λ y k. elim (ℕ_discrete y x) [
        | yes p ↦ rw p e
        | no p ↦ f y p ∙ g.within y k ∙ sym (other y p)
      ];
      beyond = λ y k. f y (λ p. absurd (omega arith)) ∙ g.beyond y k;
    }

    -- x had no rank and has one
    listed_added : b x ≡ 0 → b' x ≢ 0 → (ds : List ℕ) (t : ℕ) → Listed b' n (added b' ds t x l)
    listed_added z k ds t =
        let none : count (eqb x) l ≡ 0 = g.within x h ∙ ge_bit 0 (b x) (omega arith) in
        listed_by (added b' ds t x l)
        (rising_added b' l ds t x (rw (keys_apart l none) old_rises))
        (omega (arith, count-added b' l ds t x (eqb x), eq_bit x x refl, lt_bit 0 (b' x) (omega arith)))
        (λ y p. omega (arith, count-added b' l ds t x (eqb y), ne_bit y x p))

    module _ (k : b x ≢ 0) where
      once : count (eqb x) l ≡ 1
      once = g.within x h ∙ lt_bit 0 (b x) (omega arith)

      inside : place_of x l < length l
      inside = place_in x l (omega (arith, once))

      there : get_or l (place_of x l) 0 ≡ x
      there = at_place x 0 l (omega (arith, once))

      before : set (map b' l) (place_of x l) (b x) ≡ map b l
      before = keys_once l (place_of x l) inside there once

      -- x had a rank and has none
      listed_removed : b' x ≡ 0 → Listed b' n (removed b' (place_of x l) l)
      listed_removed z =
          listed_by (removed b' (place_of x l) l)
          (rw (keys_removed b' (place_of x l) l, ← without_set (place_of x l) (b x) (map b' l), before) (rising_without 0 (place_of x l) (map b l) old_rises))
          (omega (arith, out x, eq_bit x x refl, once, ge_bit 0 (b' x) (omega arith)))
          (λ y p. omega (arith, out y, ne_bit y x p))
        where
          out : (y : ℕ) → bit (eqb y x) + count (eqb y) (removed b' (place_of x l) l) ≡ count (eqb y) l
          out y = rw there at (count-removed b' (eqb y) (place_of x l) l inside)

      -- x had a rank and has another
      listed_changed : b' x ≢ 0 → b' x ≢ b x → (ds : List ℕ) (t : ℕ) → Listed b' n (changed b' ds t (b x) x l)
      listed_changed z d ds t =
          let m = changed_kept b' l ds t x (b x) inside there (rw before old_rises) d in
          listed_by (changed b' ds t (b x) x l) m.rises
          (m.pieces (eqb x) ∙ once ∙ sym (lt_bit 0 (b' x) (omega arith)))
          (λ y p. m.pieces (eqb y))

    listed_updated : (ds : List ℕ) (t : ℕ) → Listed b' n (updated b' ds t (b x) x l)
    unfolding updated
    listed_updated ds t =
        cond_both (Listed b' n) (eqb (b' x) (b x)) _ _ (λ s. listed_same b b' n l (λ y k. same (eqb_yes s) y) g)
        (λ d. cond_both (Listed b' n) (eqb (b x) 0) _ _
        (λ z. let e : b x ≡ 0 = eqb_yes z in let a : b' x ≢ b x = eqb_no d in listed_added e (λ p. a (p ∙ sym e)) ds t)
        (λ z. cond_both (Listed b' n) (eqb (b' x) 0) _ _
        (λ c. listed_removed (eqb_no z) (eqb_yes c))
        (λ c. listed_changed (eqb_no z) (eqb_no c) (eqb_no d) ds t)))
      where
        same : b' x ≡ b x → (y : ℕ) → b' y ≡ b y
        same e y = elim (ℕ_discrete y x) [ yes p ↦ rw p e | no p ↦ agree y p ]

-- the list mended after piece x came from rank `old` to the one that b' gives it, where the other ranks are as they were
pub updated_keeps : (b b' : ℕ → ℕ) (ds : List ℕ) (t old x n : ℕ) (l : List ℕ)
    → ((y : ℕ) → y ≢ x → b' y ≡ b y) → old ≡ b x → Listed b n l → x < n
    → Listed b' n (updated b' ds t old x l)
updated_keeps b b' ds t old x n l agree e g h = rw e (listed_updated b b' x agree n l h g ds t)

-- a piece that keeps its rank leaves the list as it is
pub updated_stays : (b : ℕ → ℕ) (ds : List ℕ) (t old x : ℕ) (l : List ℕ) → b x ≡ old → updated b ds t old x l ≡ l
unfolding updated
updated_stays b ds t old x l e = rw (eq-eqb (b x) old e)
