-- What `specs/Writing.antt` means, bit by bit: for the reader, and for a caller to cite.
use mathlib.Core.Path.{◌≡◌, ap, sym, ◌∙◌, fun_ext}
use mathlib.Core.Bool.{Bool, true, false, ◌&&◌}
use mathlib.Core.List.{List}
use Prim.Native.Nat.{ℕ, ◌+◌, ◌*◌, ◌≤◌, ◌<◌}
use native.Mathlib.Decide.{dec_lt}
use native.Mathlib.Omega.{arith}
use lib.Dec.{ltb}
use lib.ListN.{length, get_or}
use borrow.Author.Tests.{lt-ltb, le-ltb}
use Rattle.model.specs.Bep3.{bitfield_bytes, bit_at, spare_zero}
use Rattle.model.proofs.base.Bep3Laws.{bitfield_bytes_room, bit_at_past, spare_zero_all}
use Rattle.bitfield_writes.specs.Writing.{digits, put_run, put_bit, filled}
use Rattle.bitfield_writes.proofs.ByteLaws.{Bytes, byte_is, at_byte}
use Rattle.bitfield_writes.proofs.RunLaws.{length-put_run, put_run_bytes, run_in, run_low, run_high}

-- ---- one bit written
module _ (bits i : ℕ) (v : Bool) (xs : List ℕ) where
  pub length-put_bit : length (put_bit bits i v xs) ≡ length xs
  unfolding put_bit
  length-put_bit = elim (dec_lt i bits) [
    | yes l ↦ rw (lt-ltb i bits l) (length-put_run i (i + 1) (λ j. v) xs)
    | no l ↦ rw (le-ltb i bits (omega arith))
  ]

  -- the bit itself
  pub put_bit_same : i < bits → i < 8 * length xs → bit_at (put_bit bits i v xs) i ≡ v
  unfolding put_bit
  put_bit_same l h = rw (lt-ltb i bits l) (run_in i (i + 1) (λ j. v) xs i (omega arith) (omega arith) h)

  -- every other bit
  pub put_bit_other : (j : ℕ) → (j ≡ i → ⊥) → bit_at (put_bit bits i v xs) j ≡ bit_at xs j
  unfolding put_bit
  put_bit_other j n = elim (dec_lt i bits) [
    | yes l ↦ rw (lt-ltb i bits l) (elim (dec_lt j i) [
      | yes m ↦ run_low i (i + 1) (λ k. v) xs j m
      | no m ↦ run_high i (i + 1) (λ k. v) xs j (omega arith)
    ])
    | no l ↦ rw (le-ltb i bits (omega arith))
  ]

-- ---- a fill
-- a byte by its bits
byte_at : (xs : List ℕ) (j : ℕ) → Bytes xs → get_or xs j 0 ≡ digits (λ r. bit_at xs (8 * j + r)) 8
byte_at xs j b = byte_is (λ r. bit_at xs (8 * j + r)) (get_or xs j 0) (b j) (λ r h. sym (at_byte xs j r h))

module _ (bits : ℕ) (f : ℕ → Bool) (xs : List ℕ) where
  pub length-filled : length (filled bits f xs) ≡ length xs
  unfolding filled
  length-filled = length-put_run 0 (8 * bitfield_bytes bits) (λ i. ltb i bits && f i) xs

  pub filled_bytes : Bytes (filled bits f xs)
  unfolding filled
  filled_bytes = put_run_bytes 0 (8 * bitfield_bytes bits) (λ i. ltb i bits && f i) xs

  -- the bits that count
  pub filled_below : (i : ℕ) → i < bits → i < 8 * length xs → bit_at (filled bits f xs) i ≡ f i
  unfolding filled
  filled_below i l h =
      let room = bitfield_bytes_room bits in
      run_in 0 (8 * bitfield_bytes bits) (λ k. ltb k bits && f k) xs i (omega arith) (omega arith) h ∙ rw (lt-ltb i bits l)

  -- the spare bits
  pub filled_spare : (i : ℕ) → bits ≤ i → i < 8 * bitfield_bytes bits → bit_at (filled bits f xs) i ≡ false
  unfolding filled
  filled_spare i l u = elim (dec_lt i (8 * length xs)) [
    | yes h ↦ run_in 0 (8 * bitfield_bytes bits) (λ k. ltb k bits && f k) xs i (omega arith) u h ∙ rw (le-ltb i bits l)
    | no h ↦ let e = length-filled in bit_at_past (put_run 0 (8 * bitfield_bytes bits) (λ k. ltb k bits && f k) xs) i (omega arith)
  ]

  -- the bits of the bytes behind
  pub filled_behind : (i : ℕ) → 8 * bitfield_bytes bits ≤ i → bit_at (filled bits f xs) i ≡ bit_at xs i
  unfolding filled
  filled_behind i l = run_high 0 (8 * bitfield_bytes bits) (λ k. ltb k bits && f k) xs i l

  -- and so those bytes
  pub filled_bytes_behind : (j : ℕ) → Bytes xs → bitfield_bytes bits ≤ j → get_or (filled bits f xs) j 0 ≡ get_or xs j 0
  filled_bytes_behind j b l =
      byte_at (filled bits f xs) j filled_bytes
      ∙ ap (λ (g : ℕ → Bool). digits g 8) (fun_ext (λ r. filled_behind (8 * j + r) (omega arith)))
      ∙ sym (byte_at xs j b)

  -- where the bytes are no more than the bits need, no spare bit is set
  pub filled-spare_zero : length xs ≡ bitfield_bytes bits → spare_zero bits (filled bits f xs) ≡ true
  filled-spare_zero e = (spare_zero_all bits (filled bits f xs)).1 (λ i l. elim (dec_lt i (8 * bitfield_bytes bits)) [
    | yes u ↦ filled_spare i l u
    | no u ↦ let d = length-filled in bit_at_past (filled bits f xs) i (omega arith)
  ])
