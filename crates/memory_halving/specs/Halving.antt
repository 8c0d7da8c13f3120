-- A search by halving in rows of pieces: what is known between its steps, and what each step gives. Assumes nothing.
use Rattle.std.specs.Prelude.{List, cond, ℕ, ◌+◌, ◌-◌, ◌*◌, ◌≤◌, ◌<◌, ltb, get_or}

-- rows before `low` are of lower pieces than i, live rows from `high` on of none lower
pub record Halves (live : ℕ) (rows : List ℕ) (i low high : ℕ) : Type 0 where
  pub within : low ≤ live
  pub below : (k : ℕ) → k < low → get_or rows k 0 < i
  pub above : (k : ℕ) → high ≤ k → k < live → i ≤ get_or rows k 0

-- a step of the search: `step` places on, if the row before that place is of a lower piece than i
abbrev pub stepped : (rows : List ℕ) (i step low : ℕ) → ℕ
stepped rows i step low = cond (ltb (get_or rows (low + step - 1) 0) i) (low + step) low

-- one twice as long, then one
abbrev pub stepped_twice : (rows : List ℕ) (i step low : ℕ) → ℕ
stepped_twice rows i step low = stepped rows i step (stepped rows i (2 * step) low)

-- what is sought is among the `width` rows from r on, which are live, or right behind them
pub record Narrowed (live : ℕ) (rows : List ℕ) (i width r : ℕ) : Type 0 where
  pub halves : Halves live rows i r (r + width)
  pub live_all : r + width ≤ live
