-- A step of an opening that draws nothing. Assumes nothing.
use Rattle.std.specs.Prelude.{ℕ, List}
use Rattle.model.specs.list.Order.{Drawing}
use Rattle.memory_layout.specs.declared.shape.Shape.{Shape}
use Rattle.change_steps.specs.Working.{Goes}

-- a step that draws nothing, with whichever records stand beside, which stay
pub record Undrawn (s : Shape) (step : Drawing → Drawing) (words cells words' cells' : List ℕ) : Type 0 where
  pub goes : (used : ℕ) → Goes s step words cells used words' cells' used
