-- What the tests of a piece's number tell of it. The machine reads the number back from its bits, `to_z w32 (of_z w32 z)`, which
-- is z since z fits (`read`). Assumes nothing.
use mathlib.Core.Path.{◌≡◌, refl, sym, ap, subst, ◌∙◌}
use mathlib.Core.Bool.{Bool, true, false, cond}
use Prim.Native.Nat.{ℕ, zero, suc, ◌+◌, ◌<◌}
use Rattle.std.specs.Prelude.{min}
use Rattle.std.specs.Int.{saturate_signed}
use native.Mathlib.Omega.{arith}
use borrow.Author.Tests.{ltb-true, ltb-false}
use lib.IntN.{ℤ, pos, negsuc, nat_abs, ◌+ℤ◌, +ℤ_one}
use lib.Dec.{T, ltb}
use lib.Signed.{lt_z, non_neg}
use mir.Syntax.{w32, w64}
use mir.Val.{Fits, SFits, to_z, of_z}
use mir.ValLaws.{to_z-of_z}
use Rattle.types.specs.Piece.{number_of, index_of, after, largest}

-- what holds of a number that fits holds of what its bits read as
pub read : (P : ℤ → Type 0) {z : ℤ} → SFits w32 z → P z → P (to_z w32 (of_z w32 z))
read P {z} fit p = subst P (sym (to_z-of_z w32 z fit)) p

-- the same of 64 bits
pub read_64 : (P : ℤ → Type 0) {z : ℤ} → SFits w64 z → P z → P (to_z w64 (of_z w64 z))
read_64 P {z} fit p = subst P (sym (to_z-of_z w64 z fit)) p

-- a number below 2^31 reads as itself
pub reads : (n : ℕ) → n < 2147483648 → to_z w32 n ≡ pos n
reads n h = to_z-of_z w32 (pos n) (record { sfits = omega arith })

pub places : (n : ℕ) (z : ℤ) → z ≡ pos n → index_of z ≡ n
unfolding index_of
places n z e = rw e refl

pub numbers : (n : ℕ) (z : ℤ) → z ≡ pos n → number_of z ≡ n
unfolding number_of
numbers n z e = rw e refl

pub past_all : (z : ℤ) → lt_z z (pos 0) ≡ true → 9223372036854775808 ≡ number_of z
unfolding number_of
past_all (pos n) t = omega (arith, ltb-true n 0 t)
past_all (negsuc n) t = refl

pub number : (z : ℤ) → lt_z z (pos 0) ≡ false → nat_abs z ≡ number_of z
unfolding number_of
number (pos n) t = refl
number (negsuc n) t = absurd (subst T t tt)

pub negative : (z : ℤ) → lt_z z (pos 0) ≡ true → 0 ≡ index_of z
unfolding index_of
negative (pos n) t = omega (arith, ltb-true n 0 t)
negative (negsuc n) t = refl

pub casts : (z : ℤ) → SFits w32 z → lt_z z (pos 0) ≡ false → T (non_neg z) × Fits w64 (nat_abs z)
casts (pos n) fit t = (tt, record { fits = omega (arith, fit.sfits) })
casts (negsuc n) fit t = absurd (subst T t tt)

pub casts_64 : (z : ℤ) → SFits w64 z → lt_z z (pos 0) ≡ false → T (non_neg z) × Fits w64 (nat_abs z)
casts_64 (pos n) fit t = (tt, record { fits = omega (arith, fit.sfits) })
casts_64 (negsuc n) fit t = absurd (subst T t tt)

pub index : (z : ℤ) → lt_z z (pos 0) ≡ false → nat_abs z ≡ index_of z
unfolding index_of
index (pos n) t = refl
index (negsuc n) t = absurd (subst T t tt)

-- one more than a number below the largest fits
pub sum_fits : (z : ℤ) → SFits w32 z → lt_z z largest ≡ true → SFits w32 (z +ℤ pos 1)
sum_fits (pos n) fit t = record { sfits = omega (arith, ltb-true n 2147483647 t) }
sum_fits (negsuc zero) fit t = record { sfits = omega arith }
sum_fits (negsuc (suc n)) fit t = subst (SFits w32) (sym (+ℤ_one (negsuc (suc n)))) (record { sfits = omega (arith, fit.sfits) })

-- it is the next number
pub steps : (z : ℤ) → lt_z z largest ≡ true → z +ℤ pos 1 ≡ after z
unfolding after
steps z t = rw t

-- after the largest comes itself
pub stays : (z : ℤ) → lt_z z largest ≡ false → z ≡ after z
unfolding after
stays z t = rw t

-- one more, kept to the largest number
pub saturates : (z : ℤ) → SFits w32 z → saturate_signed w32 (z +ℤ pos 1) ≡ after z
unfolding after
saturates (pos n) fit = by (ltb n 2147483647) refl
  where
    by : (t : Bool) → ltb n 2147483647 ≡ t → pos (min (n + 1) 2147483647) ≡ cond t (pos (n + 1)) (pos n)
    by true e = ap pos (omega (arith, ltb-true n 2147483647 e))
    by false e = ap pos (omega (arith, fit.sfits, ltb-false n 2147483647 e))
saturates (negsuc zero) fit = refl
saturates (negsuc (suc n)) fit =
    let e : negsuc (suc n) +ℤ pos 1 ≡ negsuc n = +ℤ_one (negsuc (suc n)) in
    let m : min n 2147483647 ≡ n = omega (arith, fit.sfits) in
    ap (saturate_signed w32) e ∙ ap negsuc m ∙ sym e
