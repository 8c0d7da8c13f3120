-- Laws of `specs/Bep3.antt`: the parts of a length make up the length, for pieces and for blocks; every byte lies in one block; the bit order.
-- A law takes its numbers first, then what it assumes of them.
use mathlib.Core.Path.{◌≡◌, refl, sym, ◌∙◌}
use mathlib.Core.Logic.{◌↔◌}
use mathlib.Core.Bool.{Bool, true, false, not, ◌&&◌, true≢false}
use mathlib.Core.List.{List, [], ◌∷◌}
use Prim.Native.Nat.{ℕ, zero, suc, ◌+◌, ◌-◌, ◌*◌, ◌/◌, ◌%◌, ◌^◌, ◌≤◌, ◌<◌, min}
use native.Mathlib.Nat.{le-div_iff_mul-le, div-lt_iff_lt-mul, div-add-mod', mod-lt, div-eq_of_lt, mod-eq_of_lt, zero-div, div-one}
use native.Mathlib.Nat.{div-div-eq-div-mul, pow-succ'}
use native.Mathlib.Decide.{ℕ_discrete, dec_le}
use native.Mathlib.Omega.{arith}
use lib.Arith.{digits_div, digits_mod}
use lib.Dec.{eqb}
use lib.ListN.{length, get_or, get_or-eq_default}
use borrow.Author.Tests.{eqb-true, eqb-false, eq-eqb, ne_eqb}
use Rattle.model.specs.Bep3.{parts_of, part_length, sum_to, num_pieces, piece_length, block_length, block_count, block_start, block_length_at}
use Rattle.model.specs.Bep3.{whole_piece_blocks, piece_blocks, InBlock, piece_of_byte, block_of_byte, bitfield_bytes, bit_of, bit_at, none_set}
use Rattle.model.specs.Bep3.{spare_zero}

-- ---- a length cut into parts
-- n parts are enough where n times a part is
pub parts_of_le : (whole part n : ℕ) → 1 ≤ part → (parts_of whole part ≤ n) ↔ (whole ≤ n * part)
unfolding parts_of
parts_of_le whole part n some =
    let e = div-lt_iff_lt-mul {k = part} {x = whole + part - 1} {y = suc n} some in
    ((λ h. let g = e.0 (omega arith) in omega arith), (λ h. let g = e.1 (omega arith) in omega arith))

-- there is a part k where it would start before the end
pub lt_parts_of : (whole part k : ℕ) → 1 ≤ part → (k < parts_of whole part) ↔ (k * part < whole)
unfolding parts_of
lt_parts_of whole part k some =
    let e = le-div_iff_mul-le {k = part} {x = suc k} {y = whole + part - 1} some in
    ((λ h. let g = e.0 h in omega arith), (λ h. e.1 (omega arith)))

-- a longer whole has no fewer parts
pub parts_of_mono : (a b part : ℕ) → 1 ≤ part → a ≤ b → parts_of a part ≤ parts_of b part
parts_of_mono a b part some h =
    let g = (parts_of_le b part (parts_of b part) some).0 (omega arith) in
    (parts_of_le a part (parts_of b part) some).1 (omega arith)

sum_front : (whole part n : ℕ) → sum_to n (part_length whole part) ≡ min whole (n * part)
unfolding sum_to part_length
sum_front whole part zero = omega arith
sum_front whole part (suc n) = omega (arith, sum_front whole part n)

-- the parts' lengths sum to the whole
pub parts_sum : (whole part : ℕ) → 1 ≤ part → sum_to (parts_of whole part) (part_length whole part) ≡ whole
parts_sum whole part some =
    let g = (parts_of_le whole part (parts_of whole part) some).0 (omega arith) in
    omega (arith, sum_front whole part (parts_of whole part))

pub part_length_pos : (whole part k : ℕ) → 1 ≤ part → k < parts_of whole part → 1 ≤ part_length whole part k
unfolding part_length
part_length_pos whole part k some h = omega (arith, (lt_parts_of whole part k some).0 h)

pub part_length_le : (whole part k : ℕ) → part_length whole part k ≤ part
unfolding part_length
part_length_le whole part k = omega arith

-- all but the last are whole
pub part_length_whole : (whole part k : ℕ) → 1 ≤ part → suc k < parts_of whole part → part_length whole part k ≡ part
unfolding part_length
part_length_whole whole part k some h = omega (arith, (lt_parts_of whole part (suc k) some).0 h)

-- a part ends within the whole
pub part_within : (whole part k : ℕ) → 1 ≤ part → k < parts_of whole part → k * part + part_length whole part k ≤ whole
unfolding part_length
part_within whole part k some h = omega (arith, (lt_parts_of whole part k some).0 h)

-- place x of the whole lies in part x / part
part_of : (whole part x : ℕ) → 1 ≤ part → x < whole
    → (x / part < parts_of whole part) × (x / part * part ≤ x) × (x < x / part * part + part_length whole part (x / part))
unfolding part_length
part_of whole part x some h =
    let e = div-add-mod' x part in
    let l = mod-lt x some in
    ((lt_parts_of whole part (x / part) some).1 (omega arith), omega arith, omega arith)

-- and in no other
part_only : (whole part x k : ℕ) → k * part ≤ x → x < k * part + part_length whole part k → (x < whole) × (k ≡ x / part) × (x - k * part ≡ x % part)
unfolding part_length
part_only whole part x k l h =
    let r : x - k * part < part = omega arith in
    let e : k * part + (x - k * part) ≡ x = omega arith in
    (omega arith, rw e at (sym (digits_div k r)), rw e at (sym (digits_mod k r)))

-- ---- pieces
-- a limit on the number of pieces is one on the total
pub num_pieces_le : (total_size piece_size n : ℕ) → 1 ≤ piece_size → (num_pieces total_size piece_size ≤ n) ↔ (total_size ≤ n * piece_size)
unfolding num_pieces
num_pieces_le total_size piece_size n some = parts_of_le total_size piece_size n some

pub lt_num_pieces : (total_size piece_size i : ℕ) → 1 ≤ piece_size → (i < num_pieces total_size piece_size) ↔ (i * piece_size < total_size)
unfolding num_pieces
lt_num_pieces total_size piece_size i some = lt_parts_of total_size piece_size i some

pub num_pieces_pos : (total_size piece_size : ℕ) → 1 ≤ total_size → 1 ≤ piece_size → 1 ≤ num_pieces total_size piece_size
num_pieces_pos total_size piece_size h some = (lt_num_pieces total_size piece_size 0 some).1 (omega arith)

-- the pieces' lengths sum to the total
pub pieces_sum : (total_size piece_size : ℕ) → 1 ≤ piece_size → sum_to (num_pieces total_size piece_size) (piece_length total_size piece_size) ≡ total_size
unfolding num_pieces piece_length
pieces_sum total_size piece_size some = parts_sum total_size piece_size some

pub piece_length_pos : (total_size piece_size i : ℕ) → 1 ≤ piece_size → i < num_pieces total_size piece_size → 1 ≤ piece_length total_size piece_size i
unfolding num_pieces piece_length
piece_length_pos total_size piece_size i some h = part_length_pos total_size piece_size i some h

pub piece_length_le : (total_size piece_size i : ℕ) → piece_length total_size piece_size i ≤ piece_size
unfolding piece_length
piece_length_le total_size piece_size i = part_length_le total_size piece_size i

-- all but the last are whole
pub piece_length_whole : (total_size piece_size i : ℕ) → 1 ≤ piece_size → suc i < num_pieces total_size piece_size → piece_length total_size piece_size i ≡ piece_size
unfolding num_pieces piece_length
piece_length_whole total_size piece_size i some h = part_length_whole total_size piece_size i some h

pub piece_within : (total_size piece_size i : ℕ) → 1 ≤ piece_size → i < num_pieces total_size piece_size → i * piece_size + piece_length total_size piece_size i ≤ total_size
unfolding num_pieces piece_length
piece_within total_size piece_size i some h = part_within total_size piece_size i some h

-- ---- blocks
pub block_length_pos : (piece_size : ℕ) → 1 ≤ piece_size → 1 ≤ block_length piece_size
unfolding block_length
block_length_pos piece_size some = omega arith

-- the lengths of a piece's blocks sum to the piece's length
pub blocks_sum : (total_size piece_size i : ℕ) → 1 ≤ piece_size → sum_to (piece_blocks total_size piece_size i) (block_length_at total_size piece_size i) ≡ piece_length total_size piece_size i
unfolding piece_blocks block_count block_length_at
blocks_sum total_size piece_size i some = parts_sum (piece_length total_size piece_size i) (block_length piece_size) (block_length_pos piece_size some)

pub block_length_at_pos : (total_size piece_size i j : ℕ) → 1 ≤ piece_size → j < piece_blocks total_size piece_size i → 1 ≤ block_length_at total_size piece_size i j
unfolding piece_blocks block_count block_length_at
block_length_at_pos total_size piece_size i j some h = part_length_pos (piece_length total_size piece_size i) (block_length piece_size) j (block_length_pos piece_size some) h

pub block_length_at_le : (total_size piece_size i j : ℕ) → block_length_at total_size piece_size i j ≤ block_length piece_size
unfolding block_length_at
block_length_at_le total_size piece_size i j = part_length_le (piece_length total_size piece_size i) (block_length piece_size) j

-- all but the last are whole
pub block_length_at_whole : (total_size piece_size i j : ℕ) → 1 ≤ piece_size → suc j < piece_blocks total_size piece_size i → block_length_at total_size piece_size i j ≡ block_length piece_size
unfolding piece_blocks block_count block_length_at
block_length_at_whole total_size piece_size i j some h = part_length_whole (piece_length total_size piece_size i) (block_length piece_size) j (block_length_pos piece_size some) h

pub block_within : (total_size piece_size i j : ℕ) → 1 ≤ piece_size → j < piece_blocks total_size piece_size i
    → block_start piece_size j + block_length_at total_size piece_size i j ≤ piece_length total_size piece_size i
unfolding piece_blocks block_count block_start block_length_at
block_within total_size piece_size i j some h = part_within (piece_length total_size piece_size i) (block_length piece_size) j (block_length_pos piece_size some) h

pub blocks_in_le : (long piece_size n : ℕ) → 1 ≤ piece_size → (block_count long piece_size ≤ n) ↔ (long ≤ n * block_length piece_size)
unfolding block_count
blocks_in_le long piece_size n some = parts_of_le long (block_length piece_size) n (block_length_pos piece_size some)

pub blocks_in_pos : (long piece_size : ℕ) → 1 ≤ long → 1 ≤ piece_size → 1 ≤ block_count long piece_size
unfolding block_count
blocks_in_pos long piece_size h some = (lt_parts_of long (block_length piece_size) 0 (block_length_pos piece_size some)).1 (omega arith)

pub blocks_per_piece_pos : (piece_size : ℕ) → 1 ≤ piece_size → 1 ≤ whole_piece_blocks piece_size
unfolding whole_piece_blocks
blocks_per_piece_pos piece_size some = blocks_in_pos piece_size piece_size some some

-- a piece of at most 2^22 bytes has at most 256 blocks
pub blocks_per_piece_le : (piece_size : ℕ) → 1 ≤ piece_size → piece_size ≤ 4194304 → whole_piece_blocks piece_size ≤ 256
unfolding whole_piece_blocks block_length
blocks_per_piece_le piece_size some h = (blocks_in_le piece_size piece_size 256 some).1 (omega arith)

pub blocks_in_piece_pos : (total_size piece_size i : ℕ) → 1 ≤ piece_size → i < num_pieces total_size piece_size → 1 ≤ piece_blocks total_size piece_size i
unfolding piece_blocks
blocks_in_piece_pos total_size piece_size i some h = blocks_in_pos (piece_length total_size piece_size i) piece_size (piece_length_pos total_size piece_size i some h) some

pub blocks_in_piece_le : (total_size piece_size i : ℕ) → 1 ≤ piece_size → piece_blocks total_size piece_size i ≤ whole_piece_blocks piece_size
unfolding piece_blocks whole_piece_blocks block_count
blocks_in_piece_le total_size piece_size i some =
    parts_of_mono (piece_length total_size piece_size i) piece_size (block_length piece_size) (block_length_pos piece_size some) (piece_length_le total_size piece_size i)

-- all but the last piece have as many blocks as a whole piece
pub blocks_in_piece_whole : (total_size piece_size i : ℕ) → 1 ≤ piece_size → suc i < num_pieces total_size piece_size → piece_blocks total_size piece_size i ≡ whole_piece_blocks piece_size
unfolding piece_blocks whole_piece_blocks
blocks_in_piece_whole total_size piece_size i some h = rw (piece_length_whole total_size piece_size i some h)

-- ---- every byte lies in exactly one block
-- in this one
pub byte_block : (total_size piece_size x : ℕ) → 1 ≤ piece_size → x < total_size
    → (piece_of_byte piece_size x < num_pieces total_size piece_size)
    × (block_of_byte piece_size x < piece_blocks total_size piece_size (piece_of_byte piece_size x))
    × InBlock total_size piece_size x (piece_of_byte piece_size x) (block_of_byte piece_size x)
unfolding piece_of_byte block_of_byte num_pieces piece_length piece_blocks block_count block_start block_length_at
byte_block total_size piece_size x some h =
    let p = part_of total_size piece_size x some h in
    let e = div-add-mod' x piece_size in
    let q = part_of (part_length total_size piece_size (x / piece_size)) (block_length piece_size) (x % piece_size) (block_length_pos piece_size some) (omega arith) in
    (p.0, q.0, record { from = omega arith; below = omega arith })

-- and in no other
pub byte_block_only : (total_size piece_size x i j : ℕ) → InBlock total_size piece_size x i j
    → (x < total_size) × (i ≡ piece_of_byte piece_size x) × (j ≡ block_of_byte piece_size x)
unfolding piece_of_byte block_of_byte piece_length block_start block_length_at
byte_block_only total_size piece_size x i j h =
    let l = h.from in
    let u = h.below in
    let q = part_only (part_length total_size piece_size i) (block_length piece_size) (x - i * piece_size) j (omega arith) (omega arith) in
    let p = part_only total_size piece_size x i (omega arith) (omega arith) in
    (p.0, p.1, rw p.2 at q.1)

-- ---- bits
-- the bytes have room for the bits, and fewer than eight to spare
pub bitfield_bytes_room : (bits : ℕ) → (bits ≤ 8 * bitfield_bytes bits) × (8 * bitfield_bytes bits < bits + 8)
unfolding bitfield_bytes parts_of
bitfield_bytes_room bits = omega arith

-- the first byte holds bits 0 to 7, the highest first
pub bit_at_head : (b : ℕ) (bs : List ℕ) (i : ℕ) → i < 8 → bit_at (b ∷ bs) i ≡ bit_of b (7 - i)
unfolding bit_at
bit_at_head b bs i h = rw (div-eq_of_lt, mod-eq_of_lt)

-- the bytes behind it hold the bits from 8 on
pub bit_at_tail : (b : ℕ) (bs : List ℕ) (i : ℕ) → bit_at (b ∷ bs) (8 + i) ≡ bit_at bs i
unfolding bit_at
bit_at_tail b bs i =
    let d : (8 + i) / 8 ≡ suc (i / 8) = omega arith in
    let m : (8 + i) % 8 ≡ i % 8 = omega arith in
    rw (d, m)

bit_of_zero : (k : ℕ) → bit_of 0 k ≡ false
unfolding bit_of
bit_of_zero k = rw zero-div

pub bit_at_past : (bytes : List ℕ) (i : ℕ) → 8 * length bytes ≤ i → bit_at bytes i ≡ false
unfolding bit_at
bit_at_past bytes i h = let g : length bytes ≤ i / 8 = omega arith in rw (get_or-eq_default bytes 0 g) (bit_of_zero (7 - i % 8))

-- ---- spare bits
clear : (a b : Bool) → (not a && b) ≡ true → (a ≡ false) × (b ≡ true)
clear false b h = (refl, h)
clear true b h = absurd (true≢false (sym h))

none_set_at : (bytes : List ℕ) (i n k : ℕ) → none_set bytes i n ≡ true → i ≤ k → k < i + n → bit_at bytes k ≡ false
unfolding none_set
none_set_at bytes i zero k h l u = absurd (omega arith)
none_set_at bytes i (suc n) k h l u =
    let c = clear (bit_at bytes i) (none_set bytes (suc i) n) h in
    elim (ℕ_discrete i k) [
      | yes e ↦ rw e at c.0
      | no ne ↦ none_set_at bytes (suc i) n k c.1 (omega arith) (omega arith)
    ]

none_set_all : (bytes : List ℕ) (i n : ℕ) → ((k : ℕ) → i ≤ k → bit_at bytes k ≡ false) → none_set bytes i n ≡ true
unfolding none_set
none_set_all bytes i zero f = refl
none_set_all bytes i (suc n) f = rw (f i (omega arith), none_set_all bytes (suc i) n (λ k l. f k (omega arith)))

-- the test passes where no bit from number `bits` on is set
pub spare_zero_all : (bits : ℕ) (bytes : List ℕ) → (spare_zero bits bytes ≡ true) ↔ ((i : ℕ) → bits ≤ i → bit_at bytes i ≡ false)
unfolding spare_zero
spare_zero_all bits bytes = (
  (λ h i l. elim (dec_le (8 * length bytes) i) [
    | yes p ↦ bit_at_past bytes i p
    | no p ↦ none_set_at bytes bits (8 * length bytes - bits) i h l (omega arith)
  ]),
  none_set_all bytes bits (8 * length bytes - bits),
)

-- ---- the bits say all of the bytes
odd_same : (x y : ℕ) → eqb (x % 2) 1 ≡ eqb (y % 2) 1 → x % 2 ≡ y % 2
odd_same x y h = elim (ℕ_discrete (x % 2) 1) [
  | yes e ↦ omega (arith, eqb-true (y % 2) 1 (sym h ∙ eq-eqb (x % 2) 1 e))
  | no n ↦ let g = eqb-false (y % 2) 1 (sym h ∙ ne_eqb (x % 2) 1 n) in omega arith
]

bit_of_low : (a b : ℕ) → bit_of a 0 ≡ bit_of b 0 → a % 2 ≡ b % 2
unfolding bit_of
bit_of_low a b h = odd_same a b (rw (div-one a, div-one b) at h)

bit_of_half : (a k : ℕ) → bit_of (a / 2) k ≡ bit_of a (suc k)
unfolding bit_of
bit_of_half a k = rw (div-div-eq-div-mul, pow-succ')

bit_of_same : (n a b : ℕ) → a < 2 ^ n → b < 2 ^ n → ((k : ℕ) → k < n → bit_of a k ≡ bit_of b k) → a ≡ b
bit_of_same zero a b p q f = omega arith
bit_of_same (suc n) a b p q f =
    let h = bit_of_same n (a / 2) (b / 2) (omega arith) (omega arith) (λ k l. bit_of_half a k ∙ f (suc k) (omega arith) ∙ sym (bit_of_half b k)) in
    let g = bit_of_low a b (f 0 (omega arith)) in
    omega arith

turned : (k : ℕ) → k < 8 → 7 - (7 - k) ≡ k
turned k h = omega arith

-- as many bytes with the same bits are the same bytes
pub bit_at_same : (xs ys : List ℕ) → length xs ≡ length ys
    → ((i : ℕ) → get_or xs i 0 < 256) → ((i : ℕ) → get_or ys i 0 < 256)
    → ((i : ℕ) → bit_at xs i ≡ bit_at ys i) → xs ≡ ys
bit_at_same [] [] e p q f = refl
bit_at_same [] (y ∷ ys) e p q f = absurd (omega arith)
bit_at_same (x ∷ xs) [] e p q f = absurd (omega arith)
bit_at_same (x ∷ xs) (y ∷ ys) e p q f =
    let h = bit_of_same 8 x y (p 0) (q 0) (λ k l. rw (turned k) at (sym (bit_at_head x xs (7 - k) (omega arith)) ∙ f (7 - k) ∙ bit_at_head y ys (7 - k) (omega arith))) in
    let t = bit_at_same xs ys (omega arith) (λ i. p (suc i)) (λ i. q (suc i)) (λ i. sym (bit_at_tail x xs i) ∙ f (8 + i) ∙ bit_at_tail y ys i) in
    λ k. h k ∷ t k
