-- The shape that a caller names, and the new picker of a shape that the caller is not told. Assumes nothing.
use Rattle.std.specs.Prelude.{List, ℕ}
use Rattle.memory_layout.specs.declared.shape.Shape.{Shape}
use Rattle.memory_new.specs.Fresh.{MadeNew}

-- of so many pieces, blocks and places
abbrev pub shaped : (pieces blocks places : ℕ) → Shape
shaped pieces blocks places = record { pieces = pieces; blocks = blocks; places = places }

-- the new picker stands there, of some shape
pub record NewPicker (total_size piece_size : ℕ) (words cells words' cells' : List ℕ) : Type 0 where
  pub shape : Shape
  pub made : MadeNew shape total_size piece_size words cells words' cells'
