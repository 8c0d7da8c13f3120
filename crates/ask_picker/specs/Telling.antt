-- What an answer is of the picker, whatever stands in the buffers that were not read. Assumes nothing.
use Rattle.std.specs.Prelude.{ℕ, ◌≡◌, List}
use Rattle.model.specs.State.{Picker}
use Rattle.memory_records.specs.declared.record.DownloadingPiece.{DownloadingPiece as Record}
use Rattle.memory_layout.specs.declared.shape.Shape.{Shape}
use Rattle.memory_layout.specs.Decode.{decode}
use Rattle.memory_layout.specs.Bounds.{InBounds}
use Rattle.memory_rows.specs.Lookup.{LiveRows, picker_in}

-- told from the shape, beside any buffers in its bounds
pub record ShapeSays {A : Type 0} (s : Shape) (field : Picker → A) (r : A) : Type 0 where
  pub is : (records : List Record) (words cells : List ℕ) → InBounds s records words cells → r ≡ field (decode records words cells)

-- told from words and cells, beside any records in bounds
pub record BothSay {A : Type 0} (s : Shape) (words cells : List ℕ) (field : Picker → A) (r : A) : Type 0 where
  pub is : (records : List Record) → InBounds s records words cells → r ≡ field (decode records words cells)

-- told from the rows, beside any words and cells of which they are the live records
pub record RowsSay {A : Type 0} (live : ℕ) (rows : List ℕ) (field : Picker → A) (r : A) : Type 0 where
  pub is : (s : Shape) (words cells : List ℕ) → LiveRows s live rows words cells → r ≡ field (picker_in live rows words cells)
