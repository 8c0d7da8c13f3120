-- A partial locked or passed: what a change of the flags leaves, with the one edit of the live rows made. Assumes nothing.
use Rattle.std.specs.Prelude.{ℕ, ◌≤◌, ◌≡◌, List}
use Rattle.model.specs.State.{Picker}
use Rattle.memory_records.specs.declared.edits.Edit.{Edit}
use Rattle.memory_records.specs.Rows.{records_in}
use Rattle.memory_layout.specs.declared.shape.Shape.{Shape}
use Rattle.memory_layout.specs.Decode.{head_word, decode}
use Rattle.memory_layout.specs.Standing.{Stands, Changed, edit_records}
use Rattle.change_steps.specs.Whole.{EditRoom}

-- the picker of the rows is changed so once the edit is made
abbrev pub RowsChanged : (s : Shape) (change : Picker → Picker) (live : ℕ) (rows words cells : List ℕ) (edit : Edit)
    (words' cells' : List ℕ) → Type 0
RowsChanged s change live rows words cells edit words' cells' =
    Changed s (change (decode (records_in live rows) words cells)) words cells (edit_records edit (records_in live rows)) words' cells'

-- and that beside any words and cells that a picker stands in with the live rows, which stay; there is room for the edit
pub record EditAlone (change : Picker → Picker) (live : ℕ) (rows : List ℕ) (edit : Edit) : Type 0 where
  pub changed : (s : Shape) (words cells : List ℕ) → Stands s (records_in live rows) words cells → live ≡ head_word words 7
      → RowsChanged s change live rows words cells edit words cells
  pub room : (s : Shape) → live ≤ s.places → EditRoom s live edit
