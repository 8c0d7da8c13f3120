-- What `specs/Bitfield.antt` means, bit by bit: for the reader, and for a caller to cite.
use Rattle.std.specs.Prelude.{None, Option, Some}
use mathlib.Core.Path.{◌≡◌, refl, ap, sym, ◌∙◌}
use mathlib.Core.Bool.{Bool, true, false, ◌&&◌}
use mathlib.Core.List.{List}
use Prim.Native.Nat.{ℕ, zero, suc, ◌+◌, ◌≤◌, ◌<◌}
use native.Mathlib.Decide.{ℕ_discrete}
use native.Mathlib.Omega.{arith}
use lib.Dec.{eqb}
use borrow.Author.Tests.{eq-eqb, ne_eqb}
use Rattle.model.specs.Bep3.{bit_at}
use Rattle.bitfield.specs.Bitfield.{count_bits, every_set, first_from, first_set, last_clear}
use Rattle.model.specs.Lists.{bit}
use Rattle.bitfield.proofs.ScanLaws.{count_le}

-- ---- searches
-- bit j is the first set one of the n bits from i on
pub record First (bytes : List ℕ) (i n j : ℕ) : Type 0 where
  pub from : i ≤ j
  pub below : j < i + n
  pub here : bit_at bytes j ≡ true
  pub before : (k : ℕ) → i ≤ k → k < j → bit_at bytes k ≡ false

-- bit j is the last unset one of the n bits from 0 on
pub record Last (bytes : List ℕ) (n j : ℕ) : Type 0 where
  pub below : j < n
  pub here : bit_at bytes j ≡ false
  pub behind : (k : ℕ) → j < k → k < n → bit_at bytes k ≡ true

is_at : Option ℕ → ℕ
is_at (Some i) = suc i
is_at None = 0

at_same : (i j : ℕ) → Some i ≡ Some j → i ≡ j
unfolding is_at
at_same i j e = let d = ap is_at e in omega arith

at_nothing : (j : ℕ) → None ≡ Some j → ⊥
unfolding is_at
at_nothing j e = let d = ap is_at e in omega arith

module _ (bytes : List ℕ) where
  first_from_lem : (n i j : ℕ) → first_from bytes i n ≡ Some j → First bytes i n j
  unfolding first_from
  first_from_lem zero i j e = absurd (at_nothing j e)
  first_from_lem (suc n) i j e = by (bit_at bytes i) refl e (first_from_lem n (suc i) j)
    where
      by : (b : Bool) → bit_at bytes i ≡ b → elim b [ true ↦ Some i | false ↦ first_from bytes (suc i) n ] ≡ Some j
          → (first_from bytes (suc i) n ≡ Some j → First bytes (suc i) n j) → First bytes i (suc n) j
      by true b e next =
          let d = at_same i j e in
          record { from = omega arith; below = omega arith; here = rw d at b; before = λ k l u. absurd (omega arith) }
      by false b e next =
          let f = next e in
          let l = f.from in
          let u = f.below in
          record {
            from = omega arith;
            below = omega arith;
            here = f.here;
            before = λ k m v. elim (ℕ_discrete i k) [ yes d ↦ rw d at b | no d ↦ f.before k (omega arith) v ];
          }

  -- the bit that a search finds is the first set one
  pub first_means : (bits j : ℕ) → first_set bytes bits ≡ Some j → First bytes 0 bits j
  unfolding first_set
  first_means bits j e = first_from_lem bits 0 j e

  -- the bit that a search finds is the last unset one
  pub last_means : (bits j : ℕ) → last_clear bytes bits ≡ Some j → Last bytes bits j
  unfolding last_clear
  last_means zero j e = absurd (at_nothing j e)
  last_means (suc n) j e = by (bit_at bytes n) refl e (last_means n j)
    where
      by : (b : Bool) → bit_at bytes n ≡ b → elim b [ true ↦ last_clear bytes n | false ↦ Some n ] ≡ Some j
          → (last_clear bytes n ≡ Some j → Last bytes n j) → Last bytes (suc n) j
      by false b e next =
          let d = at_same n j e in
          record { below = omega arith; here = rw d at b; behind = λ k l u. absurd (omega arith) }
      by true b e next =
          let f = next e in
          let u = f.below in
          record {
            below = omega arith;
            here = f.here;
            behind = λ k m v. elim (ℕ_discrete n k) [ yes d ↦ rw d at b | no d ↦ f.behind k m (omega arith) ];
          }

  -- a full count is every bit set
  pub count_full : (n : ℕ) → every_set bytes n ≡ eqb (count_bits bytes n) n
  unfolding every_set count_bits
  count_full zero = refl
  count_full (suc n) = by (bit_at bytes n) (count_full n)
    where
      by : (b : Bool) → every_set bytes n ≡ eqb (count_bits bytes n) n → (b && every_set bytes n) ≡ eqb (count_bits bytes n + bit b) (suc n)
      by true e = e ∙ elim (ℕ_discrete (count_bits bytes n) n) [
        | yes d ↦ eq-eqb (count_bits bytes n) n d ∙ sym (eq-eqb (count_bits bytes n + 1) (suc n) (omega arith))
        | no d ↦ ne_eqb (count_bits bytes n) n d ∙ sym (ne_eqb (count_bits bytes n + 1) (suc n) (λ q. d (omega arith)))
      ]
      by false e = let l = count_le bytes n in sym (ne_eqb (count_bits bytes n + 0) (suc n) (λ q. omega arith))
