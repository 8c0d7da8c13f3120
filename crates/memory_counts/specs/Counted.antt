-- What a number in the columns of counts is in a picker. Assumes nothing.
use Rattle.std.specs.Prelude.{◌≡◌, List, ℕ, ◌<◌}
use Rattle.types.specs.declared.block.BlockState.{BlockState}
use Rattle.model.specs.State.{Picker}
use Rattle.model.specs.change.Partials.{blocks_in_state}
use Rattle.memory_layout.specs.Changes.{partial_in}
use Rattle.check_partials.specs.Records.{CountsHeld}

-- the number of partial k's blocks in a state, for any picker whose counts stand there
pub record CountSays (counts : List ℕ) (k : ℕ) (state : BlockState) (r : ℕ) : Type 0 where
  pub is : (d : Picker) (many : ℕ) → CountsHeld d many counts → k < many → r ≡ blocks_in_state state (partial_in d k)
