-- What turned groups of a list of words leave. Assumes nothing.
-- `l` are the lent words, `k` a place of them, `from` and `end` the places that are looked at, without `end`.
use Rattle.std.specs.Prelude.{ℕ, suc, ◌≤◌, ◌<◌, List, ◌∷◌, ◌++◌, get_or, take, drop}
use Rattle.std.proofs.Math.Seq.{slice}
use Rattle.model.specs.list.Order.{carry, turn_left, turn_right}
use Rattle.list_entries.specs.Words.{listed_rank}

-- none is of a lower rank than the held word
abbrev pub NoLower : (held from end : ℕ) (l : List ℕ) → Type 0
NoLower held from end l = (k : ℕ) → from ≤ k → k < end → listed_rank held ≤ listed_rank (get_or l k 0)

-- from place k on, the held word is carried to place `end`
unfoldable pub carried : (k end held : ℕ) (l : List ℕ) → List ℕ
carried k end held l = take k l ++ (carry listed_rank held (slice k end l) ++ drop (suc end) l)

-- w is stored at place k, and the groups from k to `end` turned left move up by one place, over what stood at `end`
unfoldable pub pushed : (k end w : ℕ) (l : List ℕ) → List ℕ
pushed k end w l = take k l ++ (w ∷ (turn_left listed_rank (slice k end l) ++ drop (suc end) l))

-- the groups behind k up to and with `last`, turned right, move down by one place, over what stood at k; place `last` stays as it was
unfoldable pub pulled : (k last : ℕ) (l : List ℕ) → List ℕ
pulled k last l = take k l ++ (turn_right listed_rank (slice (suc k) (suc last) l) ++ drop last l)
