-- A length cut into parts: the quotient rounded up without a sum that could wrap, and the part that stands at a place.
use mathlib.Core.Path.{◌≡◌, refl, sym}
use Prim.Native.Nat.{ℕ, zero, suc, min, ◌+◌, ◌-◌, ◌*◌, ◌/◌, ◌≤◌, ◌<◌}
use native.Mathlib.Nat.{div-zero, div-eq_of_lt, add-div_right}
use native.Mathlib.Decide.{dec_le}
use native.Mathlib.Omega.{arith}
use borrow.Author.Tests.{le-leb, lt-leb}
use Rattle.model.specs.Lists.{least}
use Rattle.model.specs.Bep3.{parts_of, part_length}
use Rattle.model.proofs.base.Bep3Laws.{lt_parts_of}

-- ---- how many
-- none of nothing
pub parts_of_nothing : (whole part : ℕ) → whole ≡ 0 → 0 ≡ parts_of whole part
unfolding parts_of
parts_of_nothing whole zero h = sym (div-zero (whole + 0 - 1))
parts_of_nothing whole (suc part) h = sym (div-eq_of_lt (omega arith))

-- and none that have no length
pub parts_of_none : (whole part : ℕ) → part ≡ 0 → 0 ≡ parts_of whole part
unfolding parts_of
parts_of_none whole part h = rw (h, div-zero)

-- the quotient of one less, and one
pub parts_rounded : (whole part : ℕ) → 1 ≤ whole → 1 ≤ part → (whole - 1) / part + 1 ≡ parts_of whole part
unfolding parts_of
parts_rounded whole part h some =
    let e : whole + part - 1 ≡ whole - 1 + part = omega arith in
    rw (e, add-div_right (whole - 1) {k = part} some)

-- ---- part k
-- its length is not 0 where there is one
pub part_some : (whole part k : ℕ) → k < parts_of whole part → 1 ≤ part
part_some whole zero k h = absurd (omega (arith, parts_of_none whole 0 refl))
part_some whole (suc part) k h = omega arith

-- it starts before the end
pub part_starts : (whole part k : ℕ) → k < parts_of whole part → k * part < whole
part_starts whole part k h = (lt_parts_of whole part k (part_some whole part k h)).0 h

-- a part is what is left where that is less than a whole part
pub part_short : (whole part k : ℕ) → whole - k * part < part → whole - k * part ≡ part_length whole part k
unfolding part_length
part_short whole part k h = omega arith

-- and else a whole part
pub part_long : (whole part k : ℕ) → part ≤ whole - k * part → part ≡ part_length whole part k
unfolding part_length
part_long whole part k h = omega arith

-- ---- the lesser of two numbers
pub least_left : (x y : ℕ) → x ≤ y → x ≡ least x y
unfolding least
least_left x y h = rw (le-leb x y h)

pub least_right : (x y : ℕ) → y < x → y ≡ least x y
unfolding least
least_right x y h = rw (lt-leb x y h)

pub least_min : (x y : ℕ) → min x y ≡ least x y
least_min x y = elim (dec_le x y) [
  | yes h ↦ omega (arith, least_left x y h)
  | no h ↦ omega (arith, least_right x y (omega arith))
]

-- the lesser is greater than neither
pub least_le : (x y : ℕ) → (least x y ≤ x) × (least x y ≤ y)
least_le x y = elim (dec_le x y) [
  | yes h ↦ let e = least_left x y h in (omega arith, omega arith)
  | no h ↦ let e = least_right x y (omega arith) in (omega arith, omega arith)
]

-- what is greater than neither is not greater than the lesser
pub least_most : (x y k : ℕ) → k ≤ x → k ≤ y → k ≤ least x y
least_most x y k h g = elim (dec_le x y) [
  | yes e ↦ omega (arith, least_left x y e)
  | no e ↦ omega (arith, least_right x y (omega arith))
]
