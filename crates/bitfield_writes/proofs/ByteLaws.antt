-- Laws of bits and bytes: the bits of `|` and `^`, a byte from its digits, bytes from their bits, the masks.
-- A law takes its numbers and lists first, then what it assumes of them.
use mathlib.Core.Path.{◌≡◌, refl, sym, ◌∙◌, ap}
use mathlib.Core.Bool.{Bool, true, false, not, ◌&&◌, ◌||◌, cond, true≢false, beq}
use mathlib.Core.List.{List, [], ◌∷◌}
use Prim.Native.Nat.{ℕ, zero, suc, ◌+◌, ◌-◌, ◌*◌, ◌/◌, ◌%◌, ◌^◌, ◌<◌, max}
use native.Mathlib.Nat.{div-one, pow-succ', div-div-eq-div-mul}
use native.Mathlib.Decide.{ℕ_discrete, dec_lt}
use native.Mathlib.Omega.{arith}
use lib.Dec.{eqb, leb}
use lib.ListN.{length, get_or}
use lib.Bits.{bit_or, bit_xor, differ, or_shr, or_step, or_lt, xor_shr, xor_step, xor_lt}
use Rattle.model.specs.Bep3.{bit_of, bit_at}
use Rattle.model.proofs.base.Bep3Laws.{bit_at_head, bit_at_tail, bit_at_past, bit_at_same}
use Rattle.bitfield_writes.specs.Writing.{digits, with_mask, from_bits}
use Rattle.model.specs.Lists.{bit}
use Rattle.bitfield.proofs.ScanLaws.{bit_lt}

-- ---- tests
and_left : (a b : Bool) → (a && b) ≡ true → a ≡ true
and_left true b h = refl
and_left false b h = h

and_right : (a b : Bool) → (a && b) ≡ true → b ≡ true
and_right true b h = h
and_right false b h = absurd (true≢false (sym h))

same : (a b : Bool) → beq a b ≡ true → a ≡ b
same true true h = refl
same true false h = sym h
same false true h = h
same false false h = refl

-- ---- the bits of a number
half : (a k : ℕ) → bit_of a (suc k) ≡ bit_of (a / 2) k
unfolding bit_of
half a k = rw (div-div-eq-div-mul, pow-succ')

or_digit : (x y : ℕ) → x < 2 → y < 2 → eqb (max x y) 1 ≡ (eqb x 1 || eqb y 1)
or_digit zero zero p q = refl
or_digit zero (suc zero) p q = refl
or_digit zero (suc (suc y)) p q = absurd (omega arith)
or_digit (suc zero) zero p q = refl
or_digit (suc zero) (suc zero) p q = refl
or_digit (suc zero) (suc (suc y)) p q = absurd (omega arith)
or_digit (suc (suc x)) y p q = absurd (omega arith)

or_bit : (a b k : ℕ) → bit_of (bit_or a b) k ≡ (bit_of a k || bit_of b k)
unfolding bit_of
or_bit a b k =
    let x = a / 2 ^ k in
    let y = b / 2 ^ k in
    let e : (bit_or (x / 2) (y / 2) * 2 + max (x % 2) (y % 2)) % 2 ≡ max (x % 2) (y % 2) = omega arith in
    rw (or_shr, or_step, e) (or_digit (x % 2) (y % 2) (omega arith) (omega arith))

xor_digit : (q x y : ℕ) → x < 2 → y < 2 → eqb ((q * 2 + differ x y) % 2) 1 ≡ cond (eqb y 1) (not (eqb x 1)) (eqb x 1)
xor_digit q zero zero p r = let e : (q * 2 + 0) % 2 ≡ 0 = omega arith in rw e
xor_digit q zero (suc zero) p r = let e : (q * 2 + 1) % 2 ≡ 1 = omega arith in rw e
xor_digit q zero (suc (suc y)) p r = absurd (omega arith)
xor_digit q (suc zero) zero p r = let e : (q * 2 + 1) % 2 ≡ 1 = omega arith in rw e
xor_digit q (suc zero) (suc zero) p r = let e : (q * 2 + 0) % 2 ≡ 0 = omega arith in rw e
xor_digit q (suc zero) (suc (suc y)) p r = absurd (omega arith)
xor_digit q (suc (suc x)) y p r = absurd (omega arith)

xor_bit : (a b k : ℕ) → bit_of (bit_xor a b) k ≡ cond (bit_of b k) (not (bit_of a k)) (bit_of a k)
unfolding bit_of
xor_bit a b k =
    let x = a / 2 ^ k in
    let y = b / 2 ^ k in
    rw (xor_shr, xor_step) (xor_digit (bit_xor (x / 2) (y / 2)) (x % 2) (y % 2) (omega arith) (omega arith))

-- ---- a byte from its digits
low : (d : ℕ) (b : Bool) → bit_of (2 * d + bit b) 0 ≡ b
unfolding bit_of
low d true = let e : (2 * d + 1) % 2 ≡ 1 = omega arith in rw (div-one, e)
low d false = let e : (2 * d + 0) % 2 ≡ 0 = omega arith in rw (div-one, e)

pub digits_lt : (f : ℕ → Bool) (n : ℕ) → digits f n < 2 ^ n
unfolding digits
digits_lt f zero = omega arith
digits_lt f (suc n) = omega (arith, digits_lt f n, bit_lt (f n))

digits_bit : (f : ℕ → Bool) (n k : ℕ) → k < n → bit_of (digits f n) k ≡ f (n - suc k)
unfolding digits
digits_bit f zero k h = absurd (omega arith)
digits_bit f (suc n) zero h = let e : suc n - 1 ≡ n = omega arith in rw e (low (digits f n) (f n))
digits_bit f (suc n) (suc k) h =
    let v = bit_lt (f n) in
    let e : suc n - suc (suc k) ≡ n - suc k = omega arith in
    let d : (2 * digits f n + bit (f n)) / 2 ≡ digits f n = omega arith in
    rw (half, d, e) (digits_bit f n k (omega arith))

turned : (r : ℕ) → r < 8 → 8 - suc (7 - r) ≡ r
turned r h = omega arith

pub byte_bit : (f : ℕ → Bool) (r : ℕ) → r < 8 → bit_of (digits f 8) (7 - r) ≡ f r
byte_bit f r h = rw (turned r) at (digits_bit f 8 (7 - r) (omega arith))

-- ---- bytes from bits
abbrev pub Bytes : List ℕ → Type 0
Bytes xs = (i : ℕ) → get_or xs i 0 < 256

pub length-from_bits : (f : ℕ → Bool) (n : ℕ) → length (from_bits f n) ≡ n
unfolding from_bits
length-from_bits f zero = refl
length-from_bits f (suc n) = ap suc (length-from_bits (λ i. f (8 + i)) n)

pub from_bits_bytes : (f : ℕ → Bool) (n : ℕ) → Bytes (from_bits f n)
unfolding from_bits
from_bits_bytes f zero i = omega arith
from_bits_bytes f (suc n) zero = digits_lt f 8
from_bits_bytes f (suc n) (suc i) = from_bits_bytes (λ k. f (8 + k)) n i

pub from_bits_at : (f : ℕ → Bool) (n i : ℕ) → i < 8 * n → bit_at (from_bits f n) i ≡ f i
unfolding from_bits
from_bits_at f zero i h = absurd (omega arith)
from_bits_at f (suc n) i h = elim (dec_lt i 8) [
  | yes l ↦ bit_at_head (digits f 8) (from_bits (λ k. f (8 + k)) n) i l ∙ byte_bit f i l
  | no g ↦
      let e : 8 + (i - 8) ≡ i = omega arith in
      rw e at (bit_at_tail (digits f 8) (from_bits (λ k. f (8 + k)) n) (i - 8) ∙ from_bits_at (λ k. f (8 + k)) n (i - 8) (omega arith))
]

-- bytes are what their bits say
pub from_bits_is : (f : ℕ → Bool) (n : ℕ) (ys : List ℕ) → length ys ≡ n → Bytes ys → ((i : ℕ) → i < 8 * n → bit_at ys i ≡ f i) → ys ≡ from_bits f n
from_bits_is f n ys e b h =
    bit_at_same ys (from_bits f n) (e ∙ sym (length-from_bits f n)) b (from_bits_bytes f n)
    (λ i. elim (dec_lt i (8 * n)) [
      | yes l ↦ h i l ∙ sym (from_bits_at f n i l)
      | no g ↦ bit_at_past ys i (omega arith) ∙ sym (bit_at_past (from_bits f n) i (omega (arith, length-from_bits f n)))
    ])

-- ---- a byte with some bits replaced
one_byte : (w : ℕ) → w < 256 → Bytes (w ∷ [])
one_byte w small zero = small
one_byte w small (suc i) = omega arith

-- a byte is what its bits say
pub byte_is : (f : ℕ → Bool) (w : ℕ) → w < 256 → ((r : ℕ) → r < 8 → bit_of w (7 - r) ≡ f r) → w ≡ digits f 8
unfolding from_bits
byte_is f w small h =
    ap (λ (l : List ℕ). get_or l 0 0)
    (from_bits_is f 1 (w ∷ []) refl (one_byte w small) (λ i l. bit_at_head w [] i (omega arith) ∙ h i (omega arith)))

or_false : (b : Bool) → (b || false) ≡ b
or_false true = refl
or_false false = refl

or_true : (b : Bool) → (b || true) ≡ true
or_true true = refl
or_true false = refl

-- the bits of m set, and set and turned over
pub or_mask : (b m : ℕ) → b < 256 → m < 256 → bit_or b m ≡ with_mask b m true
unfolding with_mask
or_mask b m h k = byte_is (λ r. cond (bit_of m (7 - r)) true (bit_of b (7 - r))) (bit_or b m) (or_lt 8 b m h k)
    (λ r l. or_bit b m (7 - r) ∙ by (bit_of b (7 - r)) (bit_of m (7 - r)))
  where
    by : (x y : Bool) → (x || y) ≡ cond y true x
    by x true = or_true x
    by x false = or_false x

pub xor_mask : (b m : ℕ) → b < 256 → m < 256 → bit_xor (bit_or b m) m ≡ with_mask b m false
unfolding with_mask
xor_mask b m h k = byte_is (λ r. cond (bit_of m (7 - r)) false (bit_of b (7 - r))) (bit_xor (bit_or b m) m) (xor_lt 8 (bit_or b m) m (or_lt 8 b m h k) k)
    (λ r l. xor_bit (bit_or b m) m (7 - r) ∙ rw (or_bit b m (7 - r)) (by (bit_of b (7 - r)) (bit_of m (7 - r))))
  where
    by : (x y : Bool) → cond y (not (x || y)) (x || y) ≡ cond y false x
    by x true = rw (or_true x)
    by x false = or_false x

-- the bits of a byte in its place
pub at_byte : (xs : List ℕ) (j r : ℕ) → r < 8 → bit_at xs (8 * j + r) ≡ bit_of (get_or xs j 0) (7 - r)
unfolding bit_at
at_byte xs j r h =
    let d : (8 * j + r) / 8 ≡ j = omega arith in
    let m : (8 * j + r) % 8 ≡ r = omega arith in
    rw (d, m)

-- ---- the masks: one bit, and the rest of a byte
all : (ℕ → Bool) → ℕ → Bool
all p zero = true
all p (suc n) = p n && all p n

all_at : (p : ℕ → Bool) (n k : ℕ) → all p n ≡ true → k < n → p k ≡ true
unfolding all
all_at p zero k e h = absurd (omega arith)
all_at p (suc n) k e h = elim (ℕ_discrete k n) [
  | yes q ↦ rw q (and_left (p n) (all p n) e)
  | no q ↦ all_at p n k (and_right (p n) (all p n) e) (omega arith)
]

-- two tests agree at all r, s < 8, as a computed test says
agree : (f g : ℕ → ℕ → Bool) → all (λ r. all (λ s. beq (f r s) (g r s)) 8) 8 ≡ true → (r s : ℕ) → r < 8 → s < 8 → f r s ≡ g r s
agree f g e r s h k = same (f r s) (g r s) (all_at (λ q. beq (f r q) (g r q)) 8 s (all_at (λ p. all (λ q. beq (f p q) (g p q)) 8) 8 r e h) k)

pub one_bit : (r s : ℕ) → r < 8 → s < 8 → bit_of (128 / 2 ^ r) (7 - s) ≡ eqb s r
unfolding all bit_of
one_bit = agree (λ r s. bit_of (128 / 2 ^ r) (7 - s)) (λ r s. eqb s r) refl

pub rest_bits : (r s : ℕ) → r < 8 → s < 8 → bit_of (255 / 2 ^ r) (7 - s) ≡ leb r s
unfolding all bit_of
rest_bits = agree (λ r s. bit_of (255 / 2 ^ r) (7 - s)) (λ r s. leb r s) refl
