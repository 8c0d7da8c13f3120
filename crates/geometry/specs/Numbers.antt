-- The picker's payload blocks and extents, on plain numbers. Assumes nothing.
-- `b` is the number of blocks of a whole piece, `n` the number of pieces.
use Rattle.std.specs.Prelude.{ℕ, ◌+◌, ◌-◌, ◌*◌, ◌/◌, ◌≤◌}
use Rattle.model.specs.Lists.{least}
use Rattle.model.specs.Bep3.{num_pieces, block_length, whole_piece_blocks, piece_blocks}
use Rattle.model.specs.State.{max_pieces, max_piece_size, extent_blocks, extent_size}

-- the blocks of piece i that hold more than pad bytes, where it has so many pad bytes
unfoldable pub payload_blocks : (total_size piece_size i pad : ℕ) → ℕ
payload_blocks total_size piece_size i pad = piece_blocks total_size piece_size i - pad / block_length piece_size

-- the extent of piece i
unfoldable pub extent_of : (b i : ℕ) → ℕ
extent_of b i = i / extent_size b

-- the first piece of extent e, and the one past its last
unfoldable pub extent_begin : (b e : ℕ) → ℕ
extent_begin b e = e * extent_size b

unfoldable pub extent_end : (n b e : ℕ) → ℕ
extent_end n b e = least (extent_begin b e + extent_size b) n

-- ---- the bounds of a valid geometry
pub record Bounds (total_size piece_size : ℕ) : Type 0 where
  pub some_total : 1 ≤ total_size
  pub some_size : 1 ≤ piece_size
  pub size_most : piece_size ≤ max_piece_size
  pub some_pieces : 1 ≤ num_pieces total_size piece_size
  pub pieces_most : num_pieces total_size piece_size ≤ max_pieces
  pub some_blocks : 1 ≤ whole_piece_blocks piece_size
  pub blocks_most : whole_piece_blocks piece_size ≤ extent_blocks
