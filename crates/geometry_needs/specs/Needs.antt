-- What a picker needs of memory, and how long its image is. Assumes nothing.
-- `n` is the number of pieces, `b` the number of blocks of a whole piece.
use Rattle.std.specs.Prelude.{◌≡◌, cond, List, [], ◌∷◌, ℕ, ◌+◌, ◌*◌, ◌≤◌}
use Rattle.model.specs.Lists.{least, len}
use Rattle.model.specs.Bep3.{num_pieces, whole_piece_blocks}
use Rattle.model.specs.State.{DownloadingPiece, valid_geometry, max_pieces, max_partials, max_extents, extent_blocks}
use Rattle.model.specs.Memory.{Memory, memory_for}

-- ---- limits
-- what every valid geometry keeps to
pub record Small (n b : ℕ) : Type 0 where
  pub pieces_most : n ≤ max_pieces
  pub blocks_most : b ≤ extent_blocks

-- what the parts of every image keep to
pub record Parts (n partials blocks extents places : ℕ) : Type 0 where
  pub pieces_most : n ≤ max_pieces
  pub partials_most : partials ≤ max_partials
  pub blocks_most : blocks ≤ max_partials * extent_blocks
  pub extents_most : extents ≤ max_extents
  pub places_most : places ≤ max_pieces

-- ---- bytes
-- of the records of an image
abbrev pub head_bytes : ℕ
head_bytes = 24

abbrev pub piece_bytes : ℕ
piece_bytes = 10

abbrev pub partial_bytes : ℕ
partial_bytes = 6

abbrev pub block_bytes : ℕ
block_bytes = 13

abbrev pub extent_bytes : ℕ
extent_bytes = 5

abbrev pub place_bytes : ℕ
place_bytes = 5

-- a head, and records of a piece, a partial, a block, an extent and a list place; `blocks` are those of all partials together
unfoldable pub image_length : (n partials blocks extents places : ℕ) → ℕ
image_length n partials blocks extents places =
    head_bytes + piece_bytes * n + partial_bytes * partials + block_bytes * blocks + extent_bytes * extents + place_bytes * places

-- the blocks of all partials together
unfoldable pub blocks_of : (partials : List DownloadingPiece) → ℕ
blocks_of [] = 0
blocks_of (d ∷ ds) = len d.blocks + blocks_of ds

-- with as many of each as there can be
unfoldable pub largest_image : (n b : ℕ) → ℕ
largest_image n b = image_length n (least n max_partials) (least n max_partials * b) max_extents n

-- ---- of a geometry, 0 where it is not valid
unfoldable pub no_memory : Memory
no_memory = record { words = 0; cells = 0; partials = 0 }

-- the lengths of the buffers
unfoldable pub memory_of : (total_size piece_size : ℕ) → Memory
memory_of total_size piece_size =
    cond (valid_geometry total_size piece_size) (memory_for (num_pieces total_size piece_size) (whole_piece_blocks piece_size)) no_memory

-- these are its lengths
pub record Lengths (memory : Memory) (words cells partials : ℕ) : Type 0 where
  pub words_same : words ≡ memory.words
  pub cells_same : cells ≡ memory.cells
  pub partials_same : partials ≡ memory.partials

-- the bytes of an image
unfoldable pub bytes_for : (total_size piece_size : ℕ) → ℕ
bytes_for total_size piece_size = cond (valid_geometry total_size piece_size) (largest_image (num_pieces total_size piece_size) (whole_piece_blocks piece_size)) 0
