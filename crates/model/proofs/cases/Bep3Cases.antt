-- Computed cases of `specs/Bep3.antt`.
use mathlib.Core.Path.{◌≡◌, refl}
use mathlib.Core.Bool.{true, false}
use mathlib.Core.List.{[], ◌∷◌, map}
use Rattle.model.specs.Bep3.{parts_of, part_length, sum_to, num_pieces, piece_length, block_length, block_count, block_start, block_length_at}
use Rattle.model.specs.Bep3.{whole_piece_blocks, piece_blocks, bitfield_bytes, bit_of, bit_at, none_set, spare_zero}

opened : Unit {0}
unfolding parts_of part_length sum_to num_pieces piece_length block_length block_count block_start block_length_at whole_piece_blocks piece_blocks bitfield_bytes bit_of bit_at none_set spare_zero
opened = tt

-- 100,000 bytes in pieces of 32,768: four pieces, the last of one block of 1,696
pieces : num_pieces 100000 32768 ≡ 4
unfolding opened
pieces = refl

lengths : map (piece_length 100000 32768) (0 ∷ 1 ∷ 2 ∷ 3 ∷ []) ≡ 32768 ∷ 32768 ∷ 32768 ∷ 1696 ∷ []
unfolding opened
lengths = refl

blocks : map (piece_blocks 100000 32768) (0 ∷ 1 ∷ 2 ∷ 3 ∷ []) ≡ 2 ∷ 2 ∷ 2 ∷ 1 ∷ []
unfolding opened
blocks = refl

last_block : block_length_at 100000 32768 3 0 ≡ 1696
unfolding opened
last_block = refl

-- a piece of 262,144 bytes has 16 blocks, one of 10,000 one, one of 4,194,304 has 256
per_piece : map whole_piece_blocks (262144 ∷ 10000 ∷ 4194304 ∷ []) ≡ 16 ∷ 1 ∷ 256 ∷ []
unfolding opened
per_piece = refl

-- of the byte 0x81 the bits 0 and 7 are set
byte_81 : map (bit_at (0x81 ∷ [])) (0 ∷ 1 ∷ 2 ∷ 3 ∷ 4 ∷ 5 ∷ 6 ∷ 7 ∷ []) ≡ true ∷ false ∷ false ∷ false ∷ false ∷ false ∷ false ∷ true ∷ []
unfolding opened
byte_81 = refl

-- bit 0 is the high bit of the first byte, bit 9 the second highest of the second
bit_order : map (bit_at (0x80 ∷ 0x40 ∷ [])) (0 ∷ 1 ∷ 8 ∷ 9 ∷ 16 ∷ []) ≡ true ∷ false ∷ false ∷ true ∷ false ∷ []
unfolding opened
bit_order = refl

-- ten bits take two bytes, and the last six bits of those are spare
spare : (bitfield_bytes 10 ≡ 2) × (spare_zero 10 (0xff ∷ 0xc0 ∷ []) ≡ true) × (spare_zero 10 (0xff ∷ 0xc1 ∷ []) ≡ false)
unfolding opened
spare = (refl, refl, refl)
