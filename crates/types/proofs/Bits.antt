-- Laws of option and flag bits: a flag of one bit is contained exactly where that bit is 1, and a union contains it where either part
-- does. Assumes nothing.
use mathlib.Core.Path.{◌≡◌, refl, sym, ap, ap₂, ◌∙◌}
use mathlib.Core.Bool.{not, ◌||◌}
use Prim.Native.Nat.{ℕ, zero, suc, ◌+◌, ◌*◌, ◌/◌, ◌%◌, ◌^◌, ◌<◌}
use native.Mathlib.Nat.{mod-lt, add-zero, one-mul, zero-mul}
use native.Mathlib.Omega.{arith}
use lib.Bits.{bit_and, bit_or, and_block, and_mask, and_zero_r, or_shr, or_mod}
use lib.Pow.{pow_pos, split}
use lib.Dec.{eqb}
use borrow.Author.Tests.{ne_eqb}
use Rattle.types.specs.Bits.{meets, union}

-- bit k of a number, 0 or 1
abbrev pub bit_at : ℕ → ℕ → ℕ
bit_at k n = n / 2 ^ k % 2

bit_below : (k n : ℕ) → bit_at k n < 2
bit_below k n = mod-lt (n / 2 ^ k) (omega arith)

-- what a number shares with the one bit k is its own bit k
pub and_bit : (k n : ℕ) → bit_and n (2 ^ k) ≡ bit_at k n * 2 ^ k
and_bit k n =
    ap₂ bit_and (sym (split n k)) (sym (add-zero (1 * 2 ^ k) ∙ one-mul (2 ^ k)))
    ∙ and_block k (n / 2 ^ k) 1 (n % 2 ^ k) 0 (mod-lt n (pow_pos k)) (pow_pos k)
    ∙ ap₂ (λ (x y : ℕ). x * 2 ^ k + y) (and_mask (n / 2 ^ k) 1) (and_zero_r (n % 2 ^ k))
    ∙ add-zero (bit_at k n * 2 ^ k)

scaled : (b p : ℕ) → b < 2 → 0 < p → not (eqb (b * p) 0) ≡ eqb b 1
scaled zero p h q = rw zero-mul
scaled (suc zero) p h q = rw (one-mul, ne_eqb p 0 (λ e. omega arith))
scaled (suc (suc b)) p h q = absurd (omega arith)

-- the flag of bit k is contained exactly where bit k is 1
pub meets_bit : (k n : ℕ) → meets n (2 ^ k) ≡ eqb (bit_at k n) 1
meets_bit k n = ap (λ (x : ℕ). not (eqb x 0)) (and_bit k n) ∙ scaled (bit_at k n) (2 ^ k) (bit_below k n) (pow_pos k)

either : (m n : ℕ) → m < 2 → n < 2 → eqb (bit_or m n) 1 ≡ (eqb m 1 || eqb n 1)
either zero zero g h = refl
either zero (suc zero) g h = refl
either zero (suc (suc n)) g h = absurd (omega arith)
either (suc zero) zero g h = refl
either (suc zero) (suc zero) g h = refl
either (suc zero) (suc (suc n)) g h = absurd (omega arith)
either (suc (suc m)) n g h = absurd (omega arith)

-- a union contains the flag of bit k exactly where either part does
pub union_bit : (k a b : ℕ) → meets (union a b) (2 ^ k) ≡ (meets a (2 ^ k) || meets b (2 ^ k))
union_bit k a b =
    meets_bit k (union a b)
    ∙ ap (λ (x : ℕ). eqb x 1) (ap (λ (x : ℕ). x % 2) (or_shr a b k) ∙ or_mod (a / 2 ^ k) (b / 2 ^ k) 1)
    ∙ either (bit_at k a) (bit_at k b) (bit_below k a) (bit_below k b)
    ∙ sym (ap₂ ◌||◌ (meets_bit k a) (meets_bit k b))
