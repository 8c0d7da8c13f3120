-- The geometry of a torrent and the order of the bits in a bitfield, as BEP 3 has them.
-- Lengths and places are in bytes. `total` is the torrent's length, `size` the length of a whole piece; `i` is a piece, `j` a block of it.
use Rattle.std.specs.Prelude.{ℕ, zero, suc, ◌+◌, ◌-◌, ◌*◌, ◌/◌, ◌%◌, ◌^◌, ◌≤◌, ◌<◌, min, Bool, true, not, ◌&&◌, List, length, get_or, eqb}

-- ---- a length cut into parts of one length, the last one shorter where the length is no multiple
-- how many parts: the quotient rounded up
unfoldable pub parts_of : (whole part : ℕ) → ℕ
parts_of whole part = (whole + part - 1) / part

-- the length of part k: the lesser of a part and what is left
unfoldable pub part_length : (whole part k : ℕ) → ℕ
part_length whole part k = min part (whole - k * part)

-- f 0 + .. + f (n - 1)
unfoldable pub sum_to : (n : ℕ) (f : ℕ → ℕ) → ℕ
sum_to zero f = 0
sum_to (suc n) f = sum_to n f + f n

-- ---- pieces
-- the number of pieces
unfoldable pub num_pieces : (total_size piece_size : ℕ) → ℕ
num_pieces total_size piece_size = parts_of total_size piece_size

-- the length of piece i
unfoldable pub piece_length : (total_size piece_size i : ℕ) → ℕ
piece_length total_size piece_size i = part_length total_size piece_size i

-- ---- blocks
-- the length of a whole block: 2^14, or the piece length if that is smaller
unfoldable pub block_length : (piece_size : ℕ) → ℕ
block_length piece_size = min 16384 piece_size

-- the number of blocks in a piece of `long` bytes
unfoldable pub block_count : (long piece_size : ℕ) → ℕ
block_count long piece_size = parts_of long (block_length piece_size)

-- where block j starts in its piece
unfoldable pub block_start : (piece_size j : ℕ) → ℕ
block_start piece_size j = j * block_length piece_size

-- the length of block j of piece i
unfoldable pub block_length_at : (total_size piece_size i j : ℕ) → ℕ
block_length_at total_size piece_size i j = part_length (piece_length total_size piece_size i) (block_length piece_size) j

-- the number of blocks in a whole piece
unfoldable pub whole_piece_blocks : (piece_size : ℕ) → ℕ
whole_piece_blocks piece_size = block_count piece_size piece_size

-- the number of blocks in piece i
unfoldable pub piece_blocks : (total_size piece_size i : ℕ) → ℕ
piece_blocks total_size piece_size i = block_count (piece_length total_size piece_size i) piece_size

-- ---- the bytes of the torrent
-- byte number x of the torrent lies in block j of piece i
pub record InBlock (total_size piece_size x i j : ℕ) : Type 0 where
  pub from : i * piece_size + block_start piece_size j ≤ x
  pub below : x < i * piece_size + block_start piece_size j + block_length_at total_size piece_size i j

-- the piece of byte number x
unfoldable pub piece_of_byte : (piece_size x : ℕ) → ℕ
piece_of_byte piece_size x = x / piece_size

-- the block of byte number x in its piece
unfoldable pub block_of_byte : (piece_size x : ℕ) → ℕ
block_of_byte piece_size x = x % piece_size / block_length piece_size

-- ---- bitfields
-- the number of bytes that hold so many bits
unfoldable pub bitfield_bytes : (bits : ℕ) → ℕ
bitfield_bytes bits = parts_of bits 8

-- bit k of a byte, counted from the lowest
unfoldable pub bit_of : (byte k : ℕ) → Bool
bit_of byte k = eqb (byte / 2 ^ k % 2) 1

-- bit i of a bitfield: the high bit of the first byte is bit 0; past the end no bit is set
unfoldable pub bit_at : (bytes : List ℕ) (i : ℕ) → Bool
bit_at bytes i = bit_of (get_or bytes (i / 8) 0) (7 - i % 8)

-- none of the n bits from i on is set
unfoldable pub none_set : (bytes : List ℕ) (i n : ℕ) → Bool
none_set bytes i zero = true
none_set bytes i (suc n) = not (bit_at bytes i) && none_set bytes (suc i) n

-- every bit from number `bits` to the end of the bytes is 0
unfoldable pub spare_zero : (bits : ℕ) (bytes : List ℕ) → Bool
spare_zero bits bytes = none_set bytes bits (8 * length bytes - bits)
