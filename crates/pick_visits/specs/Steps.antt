-- What a step of a pick's phases has done, and that the pick is under way still. Assumes nothing.
use Rattle.std.specs.Prelude.{ℕ, ◌+◌, ◌≤◌, ◌≡◌, Bool, List}
use Rattle.model.specs.Lists.{nth}
use Rattle.model.specs.State.{Picker}
use Rattle.model.specs.pick.Blocks.{PickState}
use Rattle.pick_state.specs.declared.numbers.PickNumbers.{PickNumbers}
use Rattle.pick_state.specs.PickStates.{Did}
use Rattle.pick_state.specs.Room.{Underway}

-- `step` was made on a pick under way, and it is under way still
pub record Stepped (step : PickState → PickState) (d : Picker) (t r : PickNumbers) (out aside : List ℕ) (ignored : List Bool) (loops : List ℕ)
    (out' aside' : List ℕ) (ignored' : List Bool) (loops' : List ℕ) : Type 0 where
  pub did : Did step d t r out aside ignored loops out' aside' ignored' loops'
  pub underway : Underway d r out' aside' ignored' loops'

-- ---- where no counter moves
-- `step` was made, whatever the counters: they stay
abbrev pub SteppedBeside : (step : PickState → PickState) (d : Picker) (t r : PickNumbers) (out aside : List ℕ) (ignored : List Bool)
    (out' aside' : List ℕ) (ignored' : List Bool) → Type 0
SteppedBeside step d t r out aside ignored out' aside' ignored' =
    (loops : List ℕ) → Underway d t out aside ignored loops → Stepped step d t r out aside ignored loops out' aside' ignored' loops

-- ---- where one does
-- only counter c has risen, by at most n
pub record Counted (c n : ℕ) (loops loops' : List ℕ) : Type 0 where
  pub own : nth 0 loops' c ≤ nth 0 loops c + n
  pub others : (k : ℕ) → (k ≡ c → ⊥) → nth 0 loops' k ≡ nth 0 loops k

-- no counter has risen by more than n
pub record Risen (n : ℕ) (loops loops' : List ℕ) : Type 0 where
  pub rise : (k : ℕ) → nth 0 loops' k ≤ nth 0 loops k + n
