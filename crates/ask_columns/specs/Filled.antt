-- Lists written into lent places. Assumes nothing.
use Rattle.std.specs.Prelude.{ℕ, ◌+◌, ◌≤◌, ◌<◌, ◌≡◌, List, length, get_or}
use Rattle.model.specs.State.{Picker}
use Rattle.model.specs.ask.Questions.{Reply, plain}
use Rattle.memory_records.specs.declared.record.DownloadingPiece.{DownloadingPiece as Record}
use Rattle.memory_layout.specs.declared.shape.Shape.{Shape}
use Rattle.memory_layout.specs.Tables.{front}
use Rattle.memory_layout.specs.Decode.{piece_cell, decode}
use Rattle.memory_layout.specs.Bounds.{InBounds}

-- the numbers of cell column f have room in 16 bits with a number added
abbrev pub ColumnFits : (cells : List ℕ) (n f more : ℕ) → Type 0
ColumnFits cells n f more = (k : ℕ) → k < n → piece_cell cells n f k + more < 65536

-- the first i places are cell column f with a number added, and the others as they were
pub record ColumnFilled (cells : List ℕ) (n f more i : ℕ) (entry exit : List ℕ) : Type 0 where
  pub long : length exit ≡ length entry
  pub number : (k : ℕ) → k < i → get_or exit k 0 ≡ piece_cell cells n f k + more
  pub behind : (k : ℕ) → i ≤ k → get_or exit k 0 ≡ get_or entry k 0

-- the first places, one for each piece, are what the picker replies, whatever records stand beside; no other place has moved
pub record Told (s : Shape) (words cells : List ℕ) (field : Picker → Reply) (entry exit : List ℕ) : Type 0 where
  pub is : (records : List Record) → InBounds s records words cells → plain (front s.pieces exit) ≡ field (decode records words cells)
  pub long : length exit ≡ length entry
  pub behind : (k : ℕ) → s.pieces ≤ k → get_or exit k 0 ≡ get_or entry k 0
