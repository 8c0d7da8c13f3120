-- The marks of pieces that passed while they are still partials. Assumes nothing.
use Rattle.std.specs.Prelude.{ℕ, ◌+◌, ◌%◌, ◌<◌, ◌≡◌, ◌≢◌, List, length, get_or}

-- each live row is of a piece that has a mark
abbrev pub PiecesLow : (live : ℕ) (rows : List ℕ) → Type 0
PiecesLow live rows = (k : ℕ) → k < live → get_or rows k 0 < 4096

-- the first k rows are marked: 1 for the piece of a row that passed, 0 for that of any other row, and 0 for a piece of none
pub record Marked (rows : List ℕ) (k : ℕ) (marks : List ℕ) : Type 0 where
  pub long : length marks ≡ 4096
  pub passed : (j : ℕ) → j < k → get_or marks (get_or rows j 0) 0 ≡ get_or rows (1024 + j) 0 % 2
  pub others : (i : ℕ) → ((j : ℕ) → j < k → get_or rows j 0 ≢ i) → get_or marks i 0 ≡ 0
