-- Laws of the searches and the count: one step of each, and that bits past the end change nothing.
use Rattle.std.specs.Prelude.{None, Some, is_none}
use mathlib.Core.Path.{◌≡◌, refl, sym, ◌∙◌, ap}
use mathlib.Core.Bool.{Bool, true, false, not, ◌&&◌}
use mathlib.Core.List.{List}
use Prim.Native.Nat.{ℕ, zero, suc, ◌+◌, ◌-◌, ◌*◌, ◌≤◌, ◌<◌, min}
use native.Mathlib.Numerals.{add-one}
use native.Mathlib.Decide.{dec_le, dec_lt}
use native.Mathlib.Omega.{arith}
use lib.ListN.{length}
use Rattle.model.specs.Bep3.{bit_at, none_set}
use Rattle.model.proofs.base.Bep3Laws.{bit_at_past}
use Rattle.bitfield.specs.Bitfield.{count_bits, every_set, first_from, last_clear}
use Rattle.model.specs.Lists.{bit}

-- ---- searches and the count
pub bit_lt : (b : Bool) → bit b < 2
bit_lt true = omega arith
bit_lt false = omega arith

module _ (bytes : List ℕ) where
  first_set : (i n : ℕ) → bit_at bytes i ≡ true → first_from bytes i (suc n) ≡ Some i
  unfolding first_from
  first_set i n e = rw (e, first_from)

  first_unset : (i n : ℕ) → bit_at bytes i ≡ false → first_from bytes i (suc n) ≡ first_from bytes (suc i) n
  unfolding first_from
  first_unset i n e = rw (e, first_from)

  -- past the end there is no set bit
  first_past : (i n : ℕ) → 8 * length bytes ≤ i → first_from bytes i n ≡ None
  unfolding first_from
  first_past i zero h = refl
  first_past i (suc n) h = first_unset i n (bit_at_past bytes i h) ∙ first_past (suc i) n (omega arith)

  -- a search at bit i: it is the one, it is passed, or there is none from here on
  pub first_here : (bits i : ℕ) → i < bits → bit_at bytes i ≡ true → first_from bytes i (bits - i) ≡ Some i
  first_here bits i h e = let d : bits - i ≡ suc (bits - suc i) = omega arith in rw d (first_set i (bits - suc i) e)

  pub first_next : (bits i : ℕ) → i < bits → bit_at bytes i ≡ false → first_from bytes i (bits - i) ≡ first_from bytes (i + 1) (bits - (i + 1))
  first_next bits i h e = let d : bits - i ≡ suc (bits - suc i) = omega arith in rw (add-one i, d) (first_unset i (bits - suc i) e)

  pub first_none : (bits i : ℕ) → min bits (8 * length bytes) ≤ i → first_from bytes i (bits - i) ≡ None
  unfolding first_from
  first_none bits i h = elim (dec_le bits i) [
    | yes l ↦ let d : bits - i ≡ 0 = omega arith in rw d
    | no l ↦ first_past i (bits - i) (omega arith)
  ]

  last_unset : (n : ℕ) → bit_at bytes n ≡ false → last_clear bytes (suc n) ≡ Some n
  unfolding last_clear
  last_unset n e = rw (e, last_clear)

  last_set : (n : ℕ) → bit_at bytes n ≡ true → last_clear bytes (suc n) ≡ last_clear bytes n
  unfolding last_clear
  last_set n e = rw (e, last_clear)

  -- a search down from bit i - 1: it is the one, or it is passed
  pub last_here : (i : ℕ) → 0 < i → bit_at bytes (i - 1) ≡ false → last_clear bytes i ≡ Some (i - 1)
  last_here i h e = let d : suc (i - 1) ≡ i = omega arith in rw d at (last_unset (i - 1) e)

  pub last_next : (i : ℕ) → 0 < i → bit_at bytes (i - 1) ≡ true → last_clear bytes i ≡ last_clear bytes (i - 1)
  last_next i h e = let d : suc (i - 1) ≡ i = omega arith in ap (last_clear bytes) (sym d) ∙ last_set (i - 1) e

  -- no bit is set where the search for a set one finds none
  pub none_first : (i n : ℕ) → none_set bytes i n ≡ is_none (first_from bytes i n)
  unfolding none_set first_from
  none_first i zero = refl
  none_first i (suc n) = by (bit_at bytes i) (none_first (suc i) n)
    where
      by : (b : Bool) → none_set bytes (suc i) n ≡ is_none (first_from bytes (suc i) n)
          → (not b && none_set bytes (suc i) n) ≡ is_none (elim b [ true ↦ Some i | false ↦ first_from bytes (suc i) n ])
      by true e = refl
      by false e = e

  -- every bit is set where the search for an unset one finds none
  pub every_last : (n : ℕ) → every_set bytes n ≡ is_none (last_clear bytes n)
  unfolding every_set last_clear
  every_last zero = refl
  every_last (suc n) = by (bit_at bytes n) (every_last n)
    where
      by : (b : Bool) → every_set bytes n ≡ is_none (last_clear bytes n)
          → (b && every_set bytes n) ≡ is_none (elim b [ true ↦ last_clear bytes n | false ↦ Some n ])
      by true e = e
      by false e = refl

  pub count-set : (n : ℕ) → bit_at bytes n ≡ true → count_bits bytes (n + 1) ≡ count_bits bytes n + 1
  unfolding count_bits
  count-set n e = rw (add-one n, e)

  pub count_clear : (n : ℕ) → bit_at bytes n ≡ false → count_bits bytes (n + 1) ≡ count_bits bytes n
  unfolding count_bits
  count_clear n e = rw (add-one n, e) (omega arith)

  pub count_le : (n : ℕ) → count_bits bytes n ≤ n
  unfolding count_bits
  count_le zero = omega arith
  count_le (suc n) = omega (arith, count_le n, bit_lt (bit_at bytes n))

  -- past the end no bit counts
  pub count_within : (n : ℕ) → count_bits bytes (min n (8 * length bytes)) ≡ count_bits bytes n
  count_within zero = let e : min 0 (8 * length bytes) ≡ 0 = omega arith in rw e
  count_within (suc n) = elim (dec_lt n (8 * length bytes)) [
    | yes l ↦ let e : min (suc n) (8 * length bytes) ≡ suc n = omega arith in rw e
    | no l ↦
        let e : min (suc n) (8 * length bytes) ≡ min n (8 * length bytes) = omega arith in
        rw (e, count_within n, ← add-one n) (sym (count_clear n (bit_at_past bytes n (omega arith))))
  ]
