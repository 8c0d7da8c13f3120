-- Blocks copied from those set aside to the output. Assumes nothing.
use Rattle.std.specs.Prelude.{ℕ, ◌+◌, ◌≤◌, ◌<◌, ◌≡◌, Bool, List, ◌++◌, length, get_or, take}
use Rattle.model.specs.Lists.{each}
use Rattle.model.specs.State.{Picker}
use Rattle.model.specs.pick.Blocks.{append_blocks}
use Rattle.pick_state.specs.declared.numbers.PickNumbers.{PickNumbers}
use Rattle.pick_state.specs.PickStates.{block_from, blocks_between}
use Rattle.pick_state.specs.Room.{Worked}

-- the first n stand behind place `at`, and nothing else moved
pub record Copied (at n : ℕ) (aside out out' : List ℕ) : Type 0 where
  pub long : length out' ≡ length out
  pub blocks : (start : ℕ) → start ≤ at → blocks_between start (at + n) out' ≡ blocks_between start at out ++ each block_from (take n aside)
  pub others : (k : ℕ) → (at ≤ k → k < at + n → ⊥) → get_or out' k 0 ≡ get_or out k 0

-- the definition's step, whatever stands beside the output and the blocks set aside; what is appended is no longer wanted
pub record Appended (t r : PickNumbers) (out out' aside : List ℕ) : Type 0 where
  pub worked : (d : Picker) (ignored : List Bool) (loops : List ℕ) → Worked append_blocks d t r out aside ignored loops out' aside ignored loops
  pub total : r.end + r.left ≡ t.end + t.left
  pub used : r.used ≡ t.used
