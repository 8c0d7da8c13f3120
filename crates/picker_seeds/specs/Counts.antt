-- The test of a pass over peer counts. Assumes nothing.
use Rattle.std.specs.Prelude.{Bool, ◌&&◌, ℕ, leb}

-- between two numbers, these included
unfoldable pub between : (low high count : ℕ) → Bool
between low high count = leb low count && leb count high
