-- A partial opened: what becomes of the picker with its record put in. Assumes nothing.
use Rattle.std.specs.Prelude.{ℕ, suc, ◌<◌, ◌≡◌, ◌≢◌, List, length, take}
use Rattle.model.specs.change.Partials.{fresh_block, add_partial}
use Rattle.memory_records.specs.declared.record.DownloadingPiece.{DownloadingPiece as Record}
use Rattle.memory_records.specs.declared.edits.Edit.TheVariants.{Insert}
use Rattle.memory_records.specs.Rows.{records_in}
use Rattle.memory_layout.specs.declared.shape.Shape.{Shape}
use Rattle.memory_layout.specs.Offsets.{places_for}
use Rattle.memory_layout.specs.Decode.{head_word, block_cell, block_held}
use Rattle.memory_layout.specs.Bounds.{InBounds, PlainBlock}
use Rattle.memory_layout.specs.Stores.{WordsKept, CellsKept, ListKept}
use Rattle.memory_layout.specs.Frames.{SameFields}
use Rattle.memory_places.specs.Places.{places_taken, lowest_free}
use Rattle.memory_partials.specs.Partials.{Edited}

-- the first `many` blocks of place p are those of a piece just opened, of which `payload` hold more than pad bytes; beside any words, and
-- nothing else moved
pub record Fresh (s : Shape) (cells cells' : List ℕ) (p many payload : ℕ) : Type 0 where
  pub kept : CellsKept s cells cells'
  pub fields : SameFields s.pieces cells cells'
  pub held : (words : List ℕ) (j : ℕ) → j < many → block_held words cells' s.pieces s.blocks p j ≡ fresh_block payload j
  pub plain : (j : ℕ) → j < many → PlainBlock s.pieces s.blocks cells' p j
  pub others : (f q j : ℕ) → q < places_for s.pieces → j < s.blocks → q ≢ p
      → block_cell cells' s.pieces s.blocks f q j ≡ block_cell cells s.pieces s.blocks f q j

-- r is the record of a partial of piece i, at the lowest place that is free; with it put in, that partial stands
pub record Opened (s : Shape) (i live : ℕ) (rows words cells words' cells' : List ℕ) (r : Record) : Type 0 where
  pub index : r.index ≡ i
  pub place : r.info_idx ≡ lowest_free s.places (places_taken live rows)
  pub flags : r.flags ≡ 0
  pub count : head_word words' 7 ≡ suc live
  pub words_kept : WordsKept s words words'
  pub cells_kept : CellsKept s cells cells'
  pub list : ListKept s words words'
  pub became : (records : List Record) → InBounds s records words cells → take live records ≡ records_in live rows → live < length records
      → Edited s (add_partial i) (Insert r) records words cells words' cells'
