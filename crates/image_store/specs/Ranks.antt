-- The ranks of pieces, by the cells that they stand in. Assumes nothing.
use Rattle.std.specs.Prelude.{ℕ, ◌<◌, List, length, get_or}
use Rattle.memory_layout.specs.Decode.{piece_cell}
use Rattle.check_pieces.specs.Rows.{Ranked, rank_from}

-- each row of the columns has a rank
abbrev pub RowsRanked : (counts states priorities : List ℕ) → Type 0
RowsRanked counts states priorities =
    (i : ℕ) → i < length counts → Ranked (get_or counts i 0) (get_or states i 0) (get_or priorities i 0)

-- each of n pieces has one
abbrev pub CellsRanked : (n : ℕ) (cells : List ℕ) → Type 0
CellsRanked n cells = (i : ℕ) → i < n → Ranked (piece_cell cells n 0 i) (piece_cell cells n 1 i) (piece_cell cells n 2 i)

-- that of piece i
unfoldable pub rank_held : (seeds : ℕ) (cells : List ℕ) (n i : ℕ) → ℕ
rank_held seeds cells n i =
    rank_from seeds (piece_cell cells n 0 i) (piece_cell cells n 1 i) (piece_cell cells n 2 i) (piece_cell cells n 3 i)
