-- What becomes of any bytes that are read into lent buffers: what the definition makes of them. Assumes nothing.
use Rattle.std.specs.Prelude.{ℕ, ◌≤◌, ◌≡◌, List, Err, Ok, Result}
use Rattle.types.specs.declared.refusal.Refusal.{Refusal}
use Rattle.model.specs.State.{Picker, pieces_in}
use Rattle.model.specs.Calls.{made, not_made, read_picker}
use Rattle.memory_layout.specs.Offsets.{places_for}
use Rattle.memory_layout.specs.Good.{lengths}
use Rattle.image_store.specs.Stored.{Standing}

-- a picker is made, and it stands in the buffers beside any records that its rows are
pub record Made (lent count : ℕ) (bytes words cells words' cells' rows' : List ℕ) : Type 0 where
  pub picker : Picker
  pub is : read_picker (lengths lent words cells) bytes ≡ made picker
  pub standing : Standing picker count words cells words' cells' rows'
  pub room : places_for (pieces_in picker) ≤ lent

-- none is made, and every buffer is as it was
pub record NotMade (lent : ℕ) (bytes words cells rows words' cells' rows' : List ℕ) (why : Refusal) : Type 0 where
  pub is : read_picker (lengths lent words cells) bytes ≡ not_made why
  pub words_same : words' ≡ words
  pub cells_same : cells' ≡ cells
  pub rows_same : rows' ≡ rows

unfoldable pub ImageTold : (lent : ℕ) (bytes words cells rows words' cells' rows' : List ℕ) (r : Result ℕ Refusal) → Type 0
ImageTold lent bytes words cells rows words' cells' rows' (Ok count) = Made lent count bytes words cells words' cells' rows'
ImageTold lent bytes words cells rows words' cells' rows' (Err why) = NotMade lent bytes words cells rows words' cells' rows' why
