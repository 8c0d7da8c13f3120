-- Places of a list of words: where words are split, and where a group stands. Assumes nothing.
-- `l` are the lent words, `k` and `m` places of them, `from` and `end` the places that are looked at, without `end`.
use Rattle.std.specs.Prelude.{ℕ, ◌≤◌, ◌<◌, ◌≡◌, List, get_or}
use Rattle.model.specs.list.Order.{Rank}
use Rattle.list_entries.specs.Words.{listed_rank}

-- ---- what is searched
-- ranks never fall
abbrev pub Rises : (from end : ℕ) (l : List ℕ) → Type 0
Rises from end l = (k m : ℕ) → from ≤ k → k ≤ m → m < end → listed_rank (get_or l k 0) ≤ listed_rank (get_or l m 0)

-- words up to `top` stand before the others
abbrev pub Splits : (top from end : ℕ) (l : List ℕ) → Type 0
Splits top from end l = (k m : ℕ) → from ≤ k → k ≤ m → m < end → get_or l m 0 ≤ top → get_or l k 0 ≤ top

-- before `low` stand words up to `top`, from `high` on higher ones
pub record Parted (top from end : ℕ) (l : List ℕ) (low high : ℕ) : Type 0 where
  pub starts : from ≤ low
  pub rises : low ≤ high
  pub ends : high ≤ end
  pub under : (k : ℕ) → from ≤ k → k < low → get_or l k 0 ≤ top
  pub over : (k : ℕ) → high ≤ k → k < end → top < get_or l k 0

-- the group of a rank stands from `low` to `high`
pub record IsGroup (rank : Rank) (from end : ℕ) (l : List ℕ) (low high : ℕ) : Type 0 where
  pub starts : from ≤ low
  pub rises : low ≤ high
  pub ends : high ≤ end
  pub lower : (k : ℕ) → from ≤ k → k < low → listed_rank (get_or l k 0) < rank
  pub same : (k : ℕ) → low ≤ k → k < high → listed_rank (get_or l k 0) ≡ rank
  pub higher : (k : ℕ) → high ≤ k → k < end → rank < listed_rank (get_or l k 0)
