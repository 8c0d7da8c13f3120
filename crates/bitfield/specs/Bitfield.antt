-- Bitfields in lent bytes, read, with the bits of BEP 3. `bytes` is the lent memory and `bits` the number of bits that count.
-- A bit past the end of the bytes reads as unset.
use Rattle.std.specs.Prelude.{ℕ, zero, suc, ◌+◌, Bool, true, false, ◌&&◌, cond, List, ltb, None, Option, Some}
use Rattle.model.specs.Lists.{bit}
use Rattle.model.specs.Bep3.{bit_at}
use Rattle.bitfield.specs.declared.Step.{Step}

-- bit i; unset from number `bits` on
unfoldable pub get_bit : (bytes : List ℕ) (bits i : ℕ) → Bool
get_bit bytes bits i = ltb i bits && bit_at bytes i

-- how many of the bits below `bits` are set
unfoldable pub count_bits : (bytes : List ℕ) (bits : ℕ) → ℕ
count_bits bytes zero = 0
count_bits bytes (suc n) = count_bits bytes n + bit (bit_at bytes n)

-- every bit below `bits` is set
unfoldable pub every_set : (bytes : List ℕ) (bits : ℕ) → Bool
every_set bytes zero = true
every_set bytes (suc n) = bit_at bytes n && every_set bytes n

-- there are bits, and every one is set
unfoldable pub all_set : (bytes : List ℕ) (bits : ℕ) → Bool
all_set bytes bits = ltb 0 bits && every_set bytes bits

-- the first set one of the n bits from i on
unfoldable pub first_from : (bytes : List ℕ) (i n : ℕ) → Option ℕ
first_from bytes i zero = None
first_from bytes i (suc n) = elim (bit_at bytes i) [ true ↦ Some i | false ↦ first_from bytes (suc i) n ]

-- the first set bit below `bits`
unfoldable pub first_set : (bytes : List ℕ) (bits : ℕ) → Option ℕ
first_set bytes bits = first_from bytes 0 bits

-- the last unset bit below `bits`
unfoldable pub last_clear : (bytes : List ℕ) (bits : ℕ) → Option ℕ
last_clear bytes zero = None
last_clear bytes (suc n) = elim (bit_at bytes n) [ true ↦ last_clear bytes n | false ↦ Some n ]

-- an iterator at bit i: the bit and the next place, or the end
unfoldable pub next_bit : (bytes : List ℕ) (bits i : ℕ) → Option Step
next_bit bytes bits i = cond (ltb i bits) (Some (record { bit = bit_at bytes i; next = i + 1 })) None
