-- Places gathered in a row: those below k that pass a test, and the rest of them still to come. Assumes nothing.
use mathlib.Core.Path.{◌≡◌, sym, ap, ◌∙◌}
use mathlib.Core.Bool.{Bool, true, false, cond}
use mathlib.Core.List.{List, [], ◌∷◌, ◌++◌, append_assoc, append-nil}
use Prim.Native.Nat.{ℕ, ◌+◌, ◌-◌, ◌≤◌, ◌<◌}
use native.Mathlib.Numerals.{add-one}
use native.Mathlib.Omega.{arith}
use lib.ListN.{length, set, take}
use lib.Seq.{take-set-le, take-suc-set}
use Rattle.model.specs.Lists.{bit, from, range, filter}
use Rattle.pick_state.proofs.RangeLaws.{range_next, range_none, range_all}

-- the first n of the row are those below k, of m
pub record Gathered (test : ℕ → Bool) (m k n : ℕ) (row : List ℕ) : Type 0 where
  pub few : n ≤ k
  pub low : k ≤ m
  pub is : take n row ++ filter test (range k m) ≡ filter test (from 0 m)

module _ (test : ℕ → Bool) (m : ℕ) where
  pub gather_start : (row : List ℕ) → Gathered test m 0 0 row
  gather_start row = record { few = omega arith; low = omega arith; is = ap (filter test) (range_all m) }

  turn : (k : ℕ) → k < m → (keep : Bool) → keep ≡ test k → filter test (range k m) ≡ cond keep (k ∷ filter test (range (k + 1) m)) (filter test (range (k + 1) m))
  unfolding filter
  turn k h keep e =
      ap (filter test) (range_next k m h)
      ∙ ap (λ (b : Bool). cond b (k ∷ filter test (range (k + 1) m)) (filter test (range (k + 1) m))) (sym e)

  pub gather_next : (k n : ℕ) (row : List ℕ) → Gathered test m k n row → k < m → n < length row → (keep : Bool) → keep ≡ test k → (n' : ℕ)
      → n' ≡ n + bit keep → Gathered test m (k + 1) n' (set row n k)
  gather_next k n row g h l keep e n' f =
      let a = g.few in
      let c = fits keep in
      record { few = omega arith; low = omega arith; is = rw f (go keep (turn k h keep e)) }
    where
      fits : (b : Bool) → bit b ≤ 1
      fits true = omega arith
      fits false = omega arith

      go : (b : Bool) → filter test (range k m) ≡ cond b (k ∷ filter test (range (k + 1) m)) (filter test (range (k + 1) m))
          → take (n + bit b) (set row n k) ++ filter test (range (k + 1) m) ≡ filter test (from 0 m)
      go true z =
          ap (λ (x : ℕ). take x (set row n k) ++ filter test (range (k + 1) m)) (add-one n)
          ∙ ap (λ (x : List ℕ). x ++ filter test (range (k + 1) m)) (take-suc-set row n k l)
          ∙ append_assoc (take n row) (k ∷ []) (filter test (range (k + 1) m))
          ∙ ap (λ (x : List ℕ). take n row ++ x) (sym z) ∙ g.is
      go false z =
          let q : n + 0 ≡ n = omega arith in
          ap (λ (x : ℕ). take x (set row n k) ++ filter test (range (k + 1) m)) q
          ∙ ap (λ (x : List ℕ). x ++ filter test (range (k + 1) m)) (take-set-le n row n k (omega arith))
          ∙ ap (λ (x : List ℕ). take n row ++ x) (sym z) ∙ g.is

  -- all are there
  pub gather_end : (k n : ℕ) (row : List ℕ) → Gathered test m k n row → m ≤ k → take n row ≡ filter test (from 0 m)
  unfolding filter
  gather_end k n row g h =
      sym (append-nil (take n row)) ∙ ap (λ (x : List ℕ). take n row ++ x) (ap (filter test) (sym (range_none k m h))) ∙ g.is

-- ---- how many there are then
pub one_more : (n : ℕ) (keep : Bool) → keep ≡ true → n + 1 ≡ n + bit keep
one_more n keep e = ap (λ (b : Bool). n + bit b) (sym e)

pub none_more : (n : ℕ) (keep : Bool) → keep ≡ false → n ≡ n + bit keep
none_more n keep e = let z : n ≡ n + 0 = omega arith in z ∙ ap (λ (b : Bool). n + bit b) (sym e)
