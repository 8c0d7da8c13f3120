-- A new picker in buffers that held anything. Assumes nothing.
use Rattle.std.specs.Prelude.{ℕ, ◌+◌, ◌*◌, ◌≤◌, ◌<◌, ◌≡◌, List, [], ◌∷◌, length, get_or}
use Rattle.model.specs.Bep3.{num_pieces, whole_piece_blocks}
use Rattle.model.specs.State.{new}
use Rattle.memory_records.specs.declared.record.DownloadingPiece.{DownloadingPiece as Record}
use Rattle.memory_layout.specs.declared.shape.Shape.{Shape}
use Rattle.memory_layout.specs.Offsets.{words_for, cells_for}
use Rattle.memory_layout.specs.Decode.{piece_word, piece_cell, decode}
use Rattle.memory_layout.specs.Bounds.{ShapeOf}
use Rattle.memory_layout.specs.Standing.{Stands}

-- ---- parts
-- the numbers from a place up to and without another are v, and all others are as they were
pub record Filled (start end v : ℕ) (before after : List ℕ) : Type 0 where
  pub long : length after ≡ length before
  pub inside : (k : ℕ) → start ≤ k → k < end → get_or after k 0 ≡ v
  pub below : (k : ℕ) → k < start → get_or after k 0 ≡ get_or before k 0
  pub behind : (k : ℕ) → end ≤ k → get_or after k 0 ≡ get_or before k 0

-- the head of a new picker of n pieces: no seeds, cursors at both ends, a dirty list, no partial, no extent
unfoldable pub fresh_head : (total_size piece_size n : ℕ) → List ℕ
fresh_head total_size piece_size n = total_size ∷ piece_size ∷ 0 ∷ 0 ∷ n ∷ 1 ∷ 0 ∷ 0 ∷ 0 ∷ []

-- the words: a head in front, no pad bytes
pub record FreshWords (total_size piece_size n : ℕ) (before after : List ℕ) : Type 0 where
  pub long : length after ≡ length before
  pub head : (k : ℕ) → k < 9 → get_or after k 0 ≡ get_or (fresh_head total_size piece_size n) k 0
  pub pads : (i : ℕ) → i < n → piece_word after n 0 i ≡ 0
  pub beyond : (k : ℕ) → 16 + n ≤ k → get_or after k 0 ≡ get_or before k 0

-- the cells of n pieces: no peers, Open, of the default priority, not flushed
pub record FreshCells (n : ℕ) (before after : List ℕ) : Type 0 where
  pub long : length after ≡ length before
  pub peers : (i : ℕ) → i < n → piece_cell after n 0 i ≡ 0
  pub states : (i : ℕ) → i < n → piece_cell after n 1 i ≡ 4
  pub priorities : (i : ℕ) → i < n → piece_cell after n 2 i ≡ 4
  pub flushed : (i : ℕ) → i < n → piece_cell after n 3 i ≡ 0
  pub beyond : (k : ℕ) → 4 * n ≤ k → get_or after k 0 ≡ get_or before k 0

-- ---- the whole
-- buffers long enough for the geometry
pub record Room (total_size piece_size : ℕ) (words cells : List ℕ) : Type 0 where
  pub in_words : words_for (num_pieces total_size piece_size) (whole_piece_blocks piece_size) ≤ length words
  pub in_cells : cells_for (num_pieces total_size piece_size) (whole_piece_blocks piece_size) ≤ length cells

-- whichever records stand beside the buffers, the new picker of the geometry stands in them. They are as long as before, and nothing beyond
-- the needs has moved
pub record MadeNew (s : Shape) (total_size piece_size : ℕ) (words cells words' cells' : List ℕ) : Type 0 where
  pub shape : ShapeOf s words'
  pub is : (records : List Record) → decode records words' cells' ≡ new total_size piece_size
  pub stands : (records : List Record) → Stands s records words' cells'
  pub words_long : length words' ≡ length words
  pub words_beyond : (k : ℕ) → words_for s.pieces s.blocks ≤ k → get_or words' k 0 ≡ get_or words k 0
  pub cells_long : length cells' ≡ length cells
  pub cells_beyond : (k : ℕ) → cells_for s.pieces s.blocks ≤ k → get_or cells' k 0 ≡ get_or cells k 0
