-- The bounds under which the buffers may be read, one tower: a shape that can be; buffers long enough for it; what they hold in bounds.
-- Beside it what the memory test asks for and `decode` forgets. Assumes nothing.
use Rattle.std.specs.Prelude.{ℕ, ◌≤◌, ◌<◌, ◌≡◌, true, List, length, get_or}
use Rattle.model.specs.State.{max_pieces, max_extents, valid_geometry}
use Rattle.list_entries.specs.Words.{listed_piece, listed_rank}
use Rattle.memory_records.specs.declared.record.DownloadingPiece.{DownloadingPiece as Record}
use Rattle.memory_layout.specs.declared.shape.Shape.{Shape}
use Rattle.memory_layout.specs.Offsets.{places_for, words_for, cells_for}
use Rattle.memory_layout.specs.Decode.{head_word, piece_word, piece_cell, block_cell, record_at, pieces_on, blocks_on, blocks_of, yes?}

-- ---- the tower
-- the shape of a picker that can be
pub record Sizes (s : Shape) : Type 0 where
  pub places : s.places ≡ places_for s.pieces
  pub many : s.pieces ≤ max_pieces
  pub wide : s.blocks ≤ 256

-- the shape that the head gives
pub record ShapeOf (s : Shape) (words : List ℕ) : Type 0 where
  pub sizes : Sizes s
  pub pieces : s.pieces ≡ pieces_on words
  pub blocks : s.blocks ≡ blocks_on words

-- the words are long enough for it
pub record WordsSpan (s : Shape) (words : List ℕ) : Type 0 where
  pub sizes : Sizes s
  pub long : words_for s.pieces s.blocks ≤ length words

-- the cells are
pub record CellsSpan (s : Shape) (cells : List ℕ) : Type 0 where
  pub sizes : Sizes s
  pub long : cells_for s.pieces s.blocks ≤ length cells

-- both
pub record Spans (s : Shape) (words cells : List ℕ) : Type 0 where
  pub in_words : WordsSpan s words
  pub in_cells : CellsSpan s cells

-- the shape is the one that the head gives, and the lengths and places that the buffers hold are in bounds
pub record InBounds (s : Shape) (records : List Record) (words cells : List ℕ) : Type 0 where
  pub spans : Spans s words cells
  pub geometry : valid_geometry (head_word words 0) (head_word words 1) ≡ true
  pub pieces : s.pieces ≡ pieces_on words
  pub blocks : s.blocks ≡ blocks_on words
  pub list : head_word words 6 ≤ s.pieces
  pub idle : yes? (head_word words 5) ≡ true → head_word words 6 ≡ 0
  pub partials : head_word words 7 ≤ s.places
  pub live : head_word words 7 ≤ length records
  pub recent_extents : head_word words 8 ≤ max_extents
  pub placed : (k : ℕ) → k < head_word words 7 → (record_at records k).info_idx < s.places
  pub apart : (k l : ℕ) → k < head_word words 7 → l < head_word words 7 → (record_at records k).info_idx ≡ (record_at records l).info_idx
      → k ≡ l

-- ---- columns: the numbers of one field, as a list of their own
-- column f of the words of n pieces
pub record WordColumn (words : List ℕ) (n f : ℕ) (column : List ℕ) : Type 0 where
  pub long : length column ≡ n
  pub word : (i : ℕ) → i < n → get_or column i 0 ≡ piece_word words n f i

-- column f of the cells of n pieces
pub record CellColumn (cells : List ℕ) (n f : ℕ) (column : List ℕ) : Type 0 where
  pub long : length column ≡ n
  pub cell : (i : ℕ) → i < n → get_or column i 0 ≡ piece_cell cells n f i

-- column f of the first blocks of place p
pub record BlockColumn (cells : List ℕ) (s : Shape) (f p many : ℕ) (column : List ℕ) : Type 0 where
  pub long : length column ≡ many
  pub cell : (j : ℕ) → j < many → get_or column j 0 ≡ block_cell cells s.pieces s.blocks f p j

-- ---- plain: what the memory test asks for and `decode` forgets
-- numbers of states and flags are numbers that a picker's image could hold
pub record PlainPieces (n : ℕ) (cells : List ℕ) : Type 0 where
  pub states : (i : ℕ) → i < n → piece_cell cells n 1 i ≤ 6
  pub flushed : (i : ℕ) → i < n → piece_cell cells n 3 i ≤ 1

-- block j of a live record
pub record PlainBlock (n b : ℕ) (cells : List ℕ) (p j : ℕ) : Type 0 where
  pub state : block_cell cells n b 0 p j ≤ 3
  pub has : block_cell cells n b 2 p j ≤ 1

-- a live record and its blocks
pub record PlainRecord (n b : ℕ) (words cells : List ℕ) (r : Record) : Type 0 where
  pub flags : r.flags ≤ 7
  pub blocks : (j : ℕ) → j < blocks_of words r.index → PlainBlock n b cells r.info_idx j

-- all of it
pub record Plain (s : Shape) (records : List Record) (words cells : List ℕ) : Type 0 where
  pub dirty : head_word words 5 ≤ 1
  pub pieces : PlainPieces s.pieces cells
  pub partials : (k : ℕ) → k < head_word words 7 → PlainRecord s.pieces s.blocks words cells (record_at records k)

-- ---- ranks: the one thing stored that could be computed
-- each word of the list has the rank of its piece beside the piece
abbrev pub RanksHeld : (n : ℕ) (words : List ℕ) (r : ℕ → ℕ) → Type 0
RanksHeld n words r = (k : ℕ) → k < head_word words 6 → listed_rank (piece_word words n 1 k) ≡ r (listed_piece (piece_word words n 1 k))
