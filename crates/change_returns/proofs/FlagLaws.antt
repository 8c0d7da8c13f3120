-- The flags of a partial by their bits. Assumes nothing.
use mathlib.Core.Path.{◌≡◌, ap}
use Prim.Native.Nat.{ℕ, ◌/◌, ◌%◌}
use native.Mathlib.Omega.{arith}
use lib.Dec.{eqb}
use Rattle.model.specs.Bep3.{bit_of}

-- bit 1 of the flags
pub passed_bit : (flags : ℕ) → eqb (flags % 2) 1 ≡ bit_of flags 0
unfolding bit_of
passed_bit flags = ap (λ (n : ℕ). eqb (n % 2) 1) one
  where
    one : flags ≡ flags / 1
    one = omega arith
