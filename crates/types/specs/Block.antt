-- The states of a block: the number of each, and the state that has a number. Assumes nothing.
use Rattle.std.specs.Prelude.{ℕ, List, [], ◌∷◌, None, Option, Some}
use Rattle.types.specs.Numbers.{case_with}
use Rattle.types.specs.declared.block.BlockState.{BlockState}
use Rattle.types.specs.declared.block.BlockState.TheVariants.{None, Requested, Writing, Finished}

-- the number that an image holds for each state
abbrev pub block_state_number : BlockState → ℕ
block_state_number None = 0
block_state_number Requested = 1
block_state_number Writing = 2
block_state_number Finished = 3

-- all four
abbrev pub block_states : List BlockState
block_states = None ∷ Requested ∷ Writing ∷ Finished ∷ []

-- the state that has a number, if any
unfoldable pub block_state_with_number : ℕ → Option BlockState
block_state_with_number = case_with block_state_number Some None block_states
