-- Each column of the counts, as a number of the picker. Assumes nothing.
use mathlib.Core.List.{List}
use Prim.Native.Nat.{ℕ, ◌+◌}
use lib.ListN.{get_or}
use Rattle.types.specs.declared.block.BlockState.TheVariants.{Requested, Writing, Finished}
use Rattle.memory_counts.specs.Counted.{CountSays}

module _ (counts : List ℕ) (k : ℕ) where
  pub requested_says : CountSays counts k Requested (get_or counts k 0)
  requested_says = record { is = λ d many h l. h.requested k l }

  pub writing_says : CountSays counts k Writing (get_or counts (512 + k) 0)
  writing_says = record { is = λ d many h l. h.writing k l }

  pub finished_says : CountSays counts k Finished (get_or counts (1024 + k) 0)
  finished_says = record { is = λ d many h l. h.finished k l }
