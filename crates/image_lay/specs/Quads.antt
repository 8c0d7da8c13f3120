-- Several numbers of a record held in one. Assumes nothing.
use Rattle.std.specs.Prelude.{ℕ, ◌/◌, ◌%◌, ◌<◌, ◌≡◌, List, length, get_or}

-- each of the first numbers is such a one at its place
pub record Filled (many : ℕ) (such : ℕ → ℕ → Type 0) (before after : List ℕ) : Type 0 where
  pub long : length after ≡ length before
  pub each : (j : ℕ) → j < many → such j (get_or after j 0)

-- one part of each
unfoldable pub part_of : (below size : ℕ) (quads : List ℕ) (j : ℕ) → ℕ
part_of below size quads j = get_or quads j 0 / below % size
