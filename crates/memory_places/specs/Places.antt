-- The place that a partial takes: free places are not stored, a place is free where no live record has it. Assumes nothing.
use Rattle.std.specs.Prelude.{ℕ, zero, suc, ◌+◌, ◌<◌, ◌≡◌, Bool, true, false, not, ◌&&◌, List, length, get_or}
use Rattle.model.specs.Bep3.{sum_to}
use Rattle.model.specs.Lists.{member}
use Rattle.memory_records.specs.Records.{first_from}
use Rattle.memory_records.specs.Rows.{row_at}
use Rattle.memory_layout.specs.Tables.{tabulate}

-- the places of the first `live` rows
unfoldable pub places_taken : (live : ℕ) (rows : List ℕ) → List ℕ
places_taken live rows = tabulate live (λ k. (row_at rows k).info_idx)

-- each of them is below a number
abbrev pub PlacesBelow : (most live : ℕ) (rows : List ℕ) → Type 0
PlacesBelow most live rows = (k : ℕ) → k < live → (row_at rows k).info_idx < most

-- no two of them are the same
abbrev pub PlacesApart : (live : ℕ) (rows : List ℕ) → Type 0
PlacesApart live rows = (k l : ℕ) → k < live → l < live → (row_at rows k).info_idx ≡ (row_at rows l).info_idx → k ≡ l

-- what those of the first k rows add up to
unfoldable pub places_sum : (k : ℕ) (rows : List ℕ) → ℕ
places_sum k rows = sum_to k (λ l. (row_at rows l).info_idx)

-- the lowest of so many places that is not taken, or their number
unfoldable pub lowest_free : (places : ℕ) (taken : List ℕ) → ℕ
lowest_free places taken = first_from (λ p. not (member p taken)) places 0

-- a mark for each place that is taken
pub record Marked (taken : List ℕ) (marks : List Bool) : Type 0 where
  pub long : length marks ≡ 512
  pub mark : (p : ℕ) → p < 512 → get_or marks p false ≡ member p taken

-- the first of t places from p on without a mark, or the place behind them
unfoldable pub unmarked_from : (marks : List Bool) (t p : ℕ) → ℕ
unmarked_from marks t p = first_from (λ q. not (get_or marks q false)) t p

-- t places from p on are all marked
unfoldable pub marked_through : (marks : List Bool) (t p : ℕ) → Bool
marked_through marks zero p = true
marked_through marks (suc t) p = marked_through marks t p && get_or marks (p + t) false
