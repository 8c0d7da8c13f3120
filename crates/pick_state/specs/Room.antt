-- A pick under way has the room that its call was lent, and a step of it keeps within that. Assumes nothing.
use Rattle.std.specs.Prelude.{ℕ, ◌≤◌, Bool, List, length}
use Rattle.model.specs.State.{Picker}
use Rattle.model.specs.pick.Blocks.{PickState}
use Rattle.pick_state.specs.declared.numbers.PickNumbers.{PickNumbers}
use Rattle.pick_state.specs.PickStates.{state_of, Did, Roomy}

-- its output starts at `start`, N blocks were wanted and a run of R
pub record Working (start N R : ℕ) (d : Picker) (t : PickNumbers) (out aside : List ℕ) (ignored : List Bool) (loops : List ℕ) : Type 0 where
  pub since : start ≤ t.end
  pub within : t.end ≤ length out
  pub roomy : Roomy start N R (state_of start d t out aside ignored loops) out aside

-- the same, for some start, N and R: what a phase asks for
pub record Underway (d : Picker) (t : PickNumbers) (out aside : List ℕ) (ignored : List Bool) (loops : List ℕ) : Type 0 where
  pub start : ℕ
  pub wanted : ℕ
  pub run : ℕ
  pub working : Working start wanted run d t out aside ignored loops

-- a step made, whose output ends within what was lent: the definition's blocks alone do not tell that
pub record Worked (step : PickState → PickState) (d : Picker) (t r : PickNumbers) (out aside : List ℕ) (ignored : List Bool) (loops : List ℕ)
    (out' aside' : List ℕ) (ignored' : List Bool) (loops' : List ℕ) : Type 0 where
  pub did : Did step d t r out aside ignored loops out' aside' ignored' loops'
  pub within : r.end ≤ length out'
