-- Bitfields in lent bytes, written. `bytes` is the lent memory and `bits` the number of bits that count.
use Rattle.std.specs.Prelude.{◌≡◌, ℕ, zero, suc, ◌+◌, ◌-◌, ◌*◌, Bool, ◌&&◌, cond, List, [], ◌∷◌, length, leb, ltb, ⊤, Result, Ok, Err}
use Rattle.model.specs.Lists.{bit}
use Rattle.model.specs.Bep3.{bitfield_bytes, bit_of, bit_at}
use Rattle.bitfield_writes.specs.declared.StoreError.{StoreError}
use Rattle.bitfield_writes.specs.declared.StoreError.TheVariants.{DataShort, TooShort}

-- the number whose n binary digits, the highest first, are f 0 to f (n - 1)
unfoldable pub digits : (f : ℕ → Bool) (n : ℕ) → ℕ
digits f zero = 0
digits f (suc n) = 2 * digits f n + bit (f n)

-- byte b with the bits of m made v
unfoldable pub with_mask : (b m : ℕ) (v : Bool) → ℕ
with_mask b m v = digits (λ r. cond (bit_of m (7 - r)) v (bit_of b (7 - r))) 8

-- n bytes whose bit i is f i
unfoldable pub from_bits : (f : ℕ → Bool) (n : ℕ) → List ℕ
from_bits f zero = []
from_bits f (suc n) = digits f 8 ∷ from_bits (λ i. f (8 + i)) n

-- the bits from `from` up to `to` are f's, every other is as it was
unfoldable pub put_run : (from to : ℕ) (f : ℕ → Bool) (bytes : List ℕ) → List ℕ
put_run from to f bytes = from_bits (λ i. cond (leb from i && ltb i to) (f i) (bit_at bytes i)) (length bytes)

-- bit i is v; nothing changes where i is not below `bits`
unfoldable pub put_bit : (bits i : ℕ) (v : Bool) (bytes : List ℕ) → List ℕ
put_bit bits i v bytes = cond (ltb i bits) (put_run i (i + 1) (λ j. v) bytes) bytes

-- the bits below `bits` are f's and the spare bits behind them 0; the bytes behind those are as they were
unfoldable pub filled : (bits : ℕ) (f : ℕ → Bool) (bytes : List ℕ) → List ℕ
filled bits f bytes = put_run 0 (8 * bitfield_bytes bits) (λ i. ltb i bits && f i) bytes

-- the bits below `old` stay, and those from there on are v
unfoldable pub grown : (bytes : List ℕ) (old : ℕ) (v : Bool) (i : ℕ) → Bool
grown bytes old v i = cond (ltb i old) (bit_at bytes i) v

-- ---- answers
-- whether the buffer has room for the bits
unfoldable pub room_for : (bits : ℕ) (buf : List ℕ) → Result ⊤ StoreError
room_for bits buf = cond (leb (bitfield_bytes bits) (length buf)) (Ok tt) (Err TooShort)

-- whether the data has the bits, and then the buffer the room
unfoldable pub room_from : (bits : ℕ) (src buf : List ℕ) → Result ⊤ StoreError
room_from bits src buf = cond (leb (bitfield_bytes bits) (length src)) (room_for bits buf) (Err DataShort)

-- the new bytes if a call is done, else the old ones
unfoldable pub on_done : (want : Result ⊤ StoreError) (new old : List ℕ) → List ℕ
on_done (Ok _) new old = new
on_done (Err _) new old = old

-- a call answers `want`, and leaves the new bytes if that is Ok, else the old ones
pub record Did (want : Result ⊤ StoreError) (new old : List ℕ) (answer : Result ⊤ StoreError) (exit : List ℕ) : Type 0 where
  pub answers : answer ≡ want
  pub leaves : exit ≡ on_done want new old
