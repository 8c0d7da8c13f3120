-- Parts of an image as they stand in the buffers once they are stored, and what is left as it was. Assumes nothing.
use Rattle.std.specs.Prelude.{ℕ, ◌+◌, ◌*◌, ◌≤◌, ◌<◌, ◌≡◌, List, [], ◌∷◌, length, get_or}
use Rattle.model.specs.Lists.{bit}
use Rattle.model.specs.State.{Block}
use Rattle.model.specs.image.Image.{partial_kind, block_kind, field, block_of}
use Rattle.memory_records.specs.Rows.{row_put}
use Rattle.memory_layout.specs.declared.shape.Shape.{Shape}
use Rattle.memory_layout.specs.Offsets.{places_for, words_for, cells_for}
use Rattle.memory_layout.specs.Decode.{piece_word, peer_word, piece_cell, block_cell}
use Rattle.image_records.specs.Records.{body_at}
use Rattle.image_pieces.specs.declared.head.Head.{Head}
use Rattle.image_pieces.specs.Pieces.{piece_body}

-- ---- the head
unfoldable pub head_words : (head : Head) → List ℕ
head_words head =
    head.total ∷ head.size ∷ head.seeds ∷ head.cursor ∷ head.reverse_cursor ∷ bit head.dirty ∷ []

-- ---- the pieces
-- the numbers of n pieces are those of their records; all other words and cells are as they were
pub record PiecesStored (n : ℕ) (bytes words cells words' cells' : List ℕ) : Type 0 where
  pub words_long : length words' ≡ length words
  pub cells_long : length cells' ≡ length cells
  pub pads : (i : ℕ) → i < n → piece_word words' n 0 i ≡ field 5 4 (piece_body bytes i)
  pub counts : (i : ℕ) → i < n → piece_cell cells' n 0 i ≡ field 0 2 (piece_body bytes i)
  pub states : (i : ℕ) → i < n → piece_cell cells' n 1 i ≡ field 2 1 (piece_body bytes i)
  pub priorities : (i : ℕ) → i < n → piece_cell cells' n 2 i ≡ field 3 1 (piece_body bytes i)
  pub flushed : (i : ℕ) → i < n → piece_cell cells' n 3 i ≡ field 4 1 (piece_body bytes i)
  pub words_below : (q : ℕ) → q < 16 → get_or words' q 0 ≡ get_or words q 0
  pub words_behind : (q : ℕ) → 16 + n ≤ q → get_or words' q 0 ≡ get_or words q 0
  pub cells_behind : (q : ℕ) → 4 * n ≤ q → get_or cells' q 0 ≡ get_or cells q 0

-- ---- the blocks of a partial
-- the body of block j of those that stand from `start` on
unfoldable pub block_body : (start : ℕ) (bytes : List ℕ) (j : ℕ) → List ℕ
block_body start bytes j = body_at block_kind (start + 13 * j) bytes

-- the block
unfoldable pub block_in : (start : ℕ) (bytes : List ℕ) (j : ℕ) → Block
block_in start bytes j = block_of (block_body start bytes j)

-- words and cells in which only the blocks of places may have moved
pub record BlocksMoved (s : Shape) (words cells words' cells' : List ℕ) : Type 0 where
  pub words_long : length words' ≡ length words
  pub cells_long : length cells' ≡ length cells
  pub words_below : (q : ℕ) → q < 16 + 2 * s.pieces → get_or words' q 0 ≡ get_or words q 0
  pub words_beyond : (q : ℕ) → words_for s.pieces s.blocks ≤ q → get_or words' q 0 ≡ get_or words q 0
  pub cells_below : (q : ℕ) → q < 4 * s.pieces → get_or cells' q 0 ≡ get_or cells q 0
  pub cells_beyond : (q : ℕ) → cells_for s.pieces s.blocks ≤ q → get_or cells' q 0 ≡ get_or cells q 0

-- the numbers of the first blocks of place p are those of their records; the blocks of other places are as they were
pub record BlocksStored (s : Shape) (p start many : ℕ) (bytes words cells words' cells' : List ℕ) : Type 0 where
  pub moved : BlocksMoved s words cells words' cells'
  pub states : (j : ℕ) → j < many → block_cell cells' s.pieces s.blocks 0 p j ≡ field 0 1 (block_body start bytes j)
  pub num_peers : (j : ℕ) → j < many → block_cell cells' s.pieces s.blocks 1 p j ≡ field 1 2 (block_body start bytes j)
  pub has : (j : ℕ) → j < many → block_cell cells' s.pieces s.blocks 2 p j ≡ field 3 1 (block_body start bytes j)
  pub peers : (j : ℕ) → j < many → peer_word words' s.pieces s.blocks p j ≡ field 4 8 (block_body start bytes j)
  pub other_cells : (f q j : ℕ) → f < 3 → q < places_for s.pieces → j < s.blocks → (q ≡ p → ⊥)
      → block_cell cells' s.pieces s.blocks f q j ≡ block_cell cells s.pieces s.blocks f q j
  pub other_peers : (q j : ℕ) → j < s.blocks → (q ≡ p → ⊥)
      → peer_word words' s.pieces s.blocks q j ≡ peer_word words s.pieces s.blocks q j

-- ---- a partial
-- its flags, where its record stands at `at`
unfoldable pub flags_at : (at : ℕ) (bytes : List ℕ) → ℕ
flags_at at bytes = field 4 1 (body_at partial_kind at bytes)

-- row k is the partial of piece i, and its blocks stand at place k
pub record PartialStored (s : Shape) (k i at many : ℕ) (bytes words cells rows words' cells' rows' : List ℕ) : Type 0 where
  pub row : rows' ≡ row_put rows k (record { index = i; info_idx = k; flags = flags_at at bytes })
  pub blocks : BlocksStored s k (at + 6) many bytes words cells words' cells'
