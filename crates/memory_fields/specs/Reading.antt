-- What a number read from one buffer is in the picker, whatever stands in the others. Assumes nothing.
use Rattle.std.specs.Prelude.{ℕ, ◌≡◌, List}
use Rattle.model.specs.State.{Picker}
use Rattle.memory_records.specs.declared.record.DownloadingPiece.{DownloadingPiece as Record}
use Rattle.memory_layout.specs.declared.shape.Shape.{Shape}
use Rattle.memory_layout.specs.Decode.{decode}
use Rattle.memory_layout.specs.Bounds.{InBounds}

-- read from the cells, beside any records and words in bounds
pub record CellsSay {A : Type 0} (s : Shape) (cells : List ℕ) (field : Picker → A) (r : A) : Type 0 where
  pub is : (records : List Record) (words : List ℕ) → InBounds s records words cells → r ≡ field (decode records words cells)

-- read from the words, beside any records and cells in bounds
pub record WordsSay {A : Type 0} (s : Shape) (words : List ℕ) (field : Picker → A) (r : A) : Type 0 where
  pub is : (records : List Record) (cells : List ℕ) → InBounds s records words cells → r ≡ field (decode records words cells)

-- read from the head, whatever stands beside it
pub record HeadSays {A : Type 0} (words : List ℕ) (field : Picker → A) (r : A) : Type 0 where
  pub is : (records : List Record) (cells : List ℕ) → r ≡ field (decode records words cells)
