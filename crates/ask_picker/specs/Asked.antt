-- What a question may rely on where it reads the records: a well-formed picker stands in the buffers, and the rows are its live records.
-- Assumes nothing.
use Rattle.std.specs.Prelude.{ℕ, ◌≡◌, List, length}
use Rattle.memory_records.specs.Rows.{records_in}
use Rattle.memory_layout.specs.declared.shape.Shape.{Shape}
use Rattle.memory_layout.specs.Decode.{head_word}
use Rattle.memory_layout.specs.Standing.{Stands}

pub record Asked (s : Shape) (live : ℕ) (rows words cells : List ℕ) : Type 0 where
  pub stands : Stands s (records_in live rows) words cells
  pub many : live ≡ head_word words 7
  pub wide : length rows ≡ 1536
