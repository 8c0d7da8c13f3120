-- Option and flag bits. Assumes nothing.
use Rattle.std.specs.Prelude.{ℕ, zero, suc, ◌^◌, eqb, Bool, not, List, [], ◌∷◌}
use Rattle.std.specs.Int.Bits.{bit_and, bit_or}

-- some bit is set in both numbers
abbrev pub meets : (a b : ℕ) → Bool
meets a b = not (eqb (bit_and a b) 0)

-- the bits of both numbers
abbrev pub union : (a b : ℕ) → ℕ
union a b = bit_or a b

-- n powers of two, from the one of k on
abbrev pub powers_from : (k n : ℕ) → List ℕ
powers_from k zero = []
powers_from k (suc n) = 2 ^ k ∷ powers_from (suc k) n
