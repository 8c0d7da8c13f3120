-- An accepted image as it stands in the buffers. Assumes nothing.
use Rattle.std.specs.Prelude.{ℕ, ◌+◌, ◌*◌, ◌≤◌, ◌<◌, ◌≡◌, List, length, get_or}
use Rattle.model.specs.Lists.{len}
use Rattle.model.specs.State.{Picker, pieces_in, blocks_per_piece}
use Rattle.model.specs.image.Image.{accepted, read_image}
use Rattle.memory_records.specs.declared.record.DownloadingPiece.{DownloadingPiece as Record}
use Rattle.memory_records.specs.Rows.{row_at}
use Rattle.memory_layout.specs.declared.shape.Shape.{Shape}
use Rattle.memory_layout.specs.Offsets.{words_for, cells_for}
use Rattle.memory_layout.specs.Decode.{head_word, piece_word, record_at, decode}
use Rattle.memory_layout.specs.Bounds.{ShapeOf}
use Rattle.memory_layout.specs.Standing.{Stands}
use Rattle.image_tail.specs.Extents.{extent_at}
use Rattle.image_store.specs.Given.{Extents, Places, place_word}

-- ---- extents and list
-- `live` partials, extents and a list stand in the words of n pieces; every other word is as it was
pub record TailStored (n at live : ℕ) (ranks bytes words words' : List ℕ) : Type 0 where
  pub extents : ℕ
  pub are : Extents at bytes extents
  pub places : ℕ
  pub list : Places (at + 5 * extents) n bytes places
  pub long : length words' ≡ length words
  pub list_length : head_word words' 6 ≡ places
  pub partials : head_word words' 7 ≡ live
  pub extent_count : head_word words' 8 ≡ extents
  pub extent : (j : ℕ) → j < extents → head_word words' (9 + j) ≡ extent_at at bytes j
  pub word : (j : ℕ) → j < places → piece_word words' n 1 j ≡ place_word ranks (at + 5 * extents) bytes j
  pub below : (q : ℕ) → q < 6 → get_or words' q 0 ≡ get_or words q 0
  pub pads : (q : ℕ) → 16 ≤ q → q < 16 + n → get_or words' q 0 ≡ get_or words q 0
  pub behind : (q : ℕ) → 16 + 2 * n ≤ q → get_or words' q 0 ≡ get_or words q 0

-- ---- the whole
-- the first records are the rows
pub record RowsAre (live : ℕ) (rows : List ℕ) (records : List Record) : Type 0 where
  pub many : live ≤ length records
  pub are : (k : ℕ) → k < live → record_at records k ≡ row_at rows k

-- the picker stands in words and cells beside any records that the first rows are, as many as it has partials. Both buffers are as long as
-- before, and nothing beyond the needs has moved
pub record Standing (p : Picker) (live : ℕ) (words cells words' cells' rows' : List ℕ) : Type 0 where
  pub shape : Shape
  pub fits : ShapeOf shape words'
  pub many : live ≡ len p.partials
  pub is : (records : List Record) → RowsAre live rows' records → decode records words' cells' ≡ p
  pub stands : (records : List Record) → RowsAre live rows' records → Stands shape records words' cells'
  pub words_long : length words' ≡ length words
  pub cells_long : length cells' ≡ length cells
  pub words_beyond : (k : ℕ) → words_for (pieces_in p) (blocks_per_piece p) ≤ k → get_or words' k 0 ≡ get_or words k 0
  pub cells_beyond : (k : ℕ) → cells_for (pieces_in p) (blocks_per_piece p) ≤ k → get_or cells' k 0 ≡ get_or cells k 0

-- words and cells are long enough for the picker of the image
abbrev pub Room : (bytes words cells : List ℕ) → Type 0
Room bytes words cells =
    (p : Picker) → read_image bytes ≡ accepted p
    → (words_for (pieces_in p) (blocks_per_piece p) ≤ length words) × (cells_for (pieces_in p) (blocks_per_piece p) ≤ length cells)

-- the picker of the image stands there
abbrev pub ImageStored : (bytes : List ℕ) (live : ℕ) (words cells words' cells' rows' : List ℕ) → Type 0
ImageStored bytes live words cells words' cells' rows' =
    (p : Picker) → read_image bytes ≡ accepted p → Standing p live words cells words' cells' rows'
