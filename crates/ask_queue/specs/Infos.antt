-- Partials told one after another, seven words a record. Assumes nothing.
use Rattle.std.specs.Prelude.{ℕ, ◌+◌, ◌*◌, ◌≤◌, ◌<◌, ◌≡◌, List, length, get_or}
use Rattle.model.specs.Lists.{nth}
use Rattle.model.specs.ask.Questions.{info}
use Rattle.memory_layout.specs.declared.shape.Shape.{Shape}
use Rattle.memory_layout.specs.Changes.{partial_in}
use Rattle.memory_rows.specs.Lookup.{LiveRows, picker_in}
use Rattle.check_partials.specs.Records.{CountsHeld}
use Rattle.ask_records.specs.Records.{words_at, told}

-- what the first n records tell: their words
abbrev pub infos_told : (n : ℕ) (out : List ℕ) → List ℕ
infos_told n out = told 7 (λ words. words) n out

-- the words are those of partial k, for any picker whose rows and counts stand there
pub record InfoWords (rows counts : List ℕ) (k : ℕ) (words : List ℕ) : Type 0 where
  pub is : (s : Shape) (live : ℕ) (others cells : List ℕ) → LiveRows s live rows others cells
      → CountsHeld (picker_in live rows others cells) live counts → k < live
      → words ≡ info (partial_in (picker_in live rows others cells) k)

-- the first places of a row can be those of partials
abbrev pub PlacesLow : (row : List ℕ) (size : ℕ) → Type 0
PlacesLow row size = (j : ℕ) → j < size → nth 0 row j < 512

-- the partials of the first places of a row stand from record n on, and nothing else moved
pub record InfosPut (rows counts row : List ℕ) (n size : ℕ) (before after : List ℕ) : Type 0 where
  pub long : length after ≡ length before
  pub put : (j : ℕ) → j < size → InfoWords rows counts (nth 0 row j) (words_at 7 after (n + j))
  pub below : (k : ℕ) → k < 7 * n → get_or after k 0 ≡ get_or before k 0
  pub behind : (k : ℕ) → 7 * (n + size) ≤ k → get_or after k 0 ≡ get_or before k 0
