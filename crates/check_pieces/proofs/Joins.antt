-- Words joined by `|`: the whole is 0 exactly where each part is, and no part is above it. Assumes nothing.
use mathlib.Core.Path.{◌≡◌}
use mathlib.Core.Bool.{◌&&◌, and-false}
use Prim.Native.Nat.{ℕ, ◌-◌, ◌^◌, ◌≤◌}
use native.Mathlib.Decide.{ℕ_discrete, dec_le, dec_lt}
use native.Mathlib.Omega.{arith}
use lib.Dec.{eqb, ltb, leb}
use lib.Bits.{bit_or, and_le_l, and_le_r, or_add_and, or_lt}
use borrow.Author.Tests.{eq-eqb, ne_eqb, le-leb, lt-leb, lt-ltb, le-ltb}

-- no part is above the whole
pub or_least : (a b : ℕ) → (a ≤ bit_or a b) × (b ≤ bit_or a b)
or_least a b = (omega (arith, or_add_and a b, and_le_r a b), omega (arith, or_add_and a b, and_le_l a b))

-- the whole is 0 where both parts are
pub or_zero : (a b : ℕ) → eqb (bit_or a b) 0 ≡ (eqb a 0 && eqb b 0)
or_zero a b =
    let m = or_least a b in
    elim (ℕ_discrete a 0) [
      | no n ↦ rw (ne_eqb a 0 n) (ne_eqb (bit_or a b) 0 (λ e. n (omega (arith, m.0))))
      | yes z ↦ elim (ℕ_discrete b 0) [
        | no n ↦ rw (ne_eqb b 0 n, and-false) (ne_eqb (bit_or a b) 0 (λ e. n (omega (arith, m.1))))
        | yes w ↦ rw (eq-eqb a 0 z, eq-eqb b 0 w) (eq-eqb (bit_or a b) 0 (omega (arith, or_add_and a b)))
      ]
    ]

-- the whole is below a power of two where both parts are
pub or_below : (k a b : ℕ) → ltb (bit_or a b) (2 ^ k) ≡ (ltb a (2 ^ k) && ltb b (2 ^ k))
or_below k a b =
    let m = or_least a b in
    elim (dec_lt a (2 ^ k)) [
      | no n ↦ rw (le-ltb a (2 ^ k) (omega arith)) (le-ltb (bit_or a b) (2 ^ k) (omega (arith, m.0)))
      | yes la ↦ elim (dec_lt b (2 ^ k)) [
        | no n ↦ rw (le-ltb b (2 ^ k) (omega arith), and-false) (le-ltb (bit_or a b) (2 ^ k) (omega (arith, m.1)))
        | yes lb ↦ rw (lt-ltb a (2 ^ k) la, lt-ltb b (2 ^ k) lb) (lt-ltb (bit_or a b) (2 ^ k) (or_lt k a b la lb))
      ]
    ]

-- nothing is left over where a number is not above the most
pub over_zero : (x most : ℕ) → eqb (x - most) 0 ≡ leb x most
over_zero x most = elim (dec_le x most) [
  | yes l ↦ rw (le-leb x most l) (eq-eqb (x - most) 0 (omega arith))
  | no l ↦ rw (lt-leb x most (omega arith)) (ne_eqb (x - most) 0 (λ e. l (omega arith)))
]
