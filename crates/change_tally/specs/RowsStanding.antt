-- What a change relies on that sees the records as rows. Assumes nothing.
use Rattle.std.specs.Prelude.{ℕ, ◌≡◌, List, length}
use Rattle.memory_records.specs.Rows.{records_in}
use Rattle.memory_layout.specs.declared.shape.Shape.{Shape}
use Rattle.memory_layout.specs.Decode.{head_word}
use Rattle.memory_layout.specs.Standing.{Stands}
use Rattle.check_partials.specs.Records.{CountsHeld}
use Rattle.memory_rows.specs.Lookup.{picker_in}

-- a picker stands with the live rows for its records, and the counts are those of its partials
pub record RowsStand (s : Shape) (live : ℕ) (rows counts words cells : List ℕ) : Type 0 where
  pub stands : Stands s (records_in live rows) words cells
  pub many : live ≡ head_word words 7
  pub counted : CountsHeld (picker_in live rows words cells) live counts
  pub long_rows : length rows ≡ 1536
  pub long_counts : length counts ≡ 1536
