-- A partial read from its row and the counts: the numbers of its blocks, and what else a change of them needs. Assumes nothing.
use Rattle.std.specs.Prelude.{ℕ, ◌<◌, ◌≡◌, List}
use Rattle.types.specs.declared.block.BlockState.TheVariants.{Finished}
use Rattle.memory_records.specs.Rows.{row_at}
use Rattle.memory_layout.specs.declared.shape.Shape.{Shape}
use Rattle.memory_layout.specs.Changes.{partial_in}
use Rattle.check_partials.specs.Records.{CountsHeld}
use Rattle.memory_counts.specs.Counted.{CountSays}
use Rattle.memory_rows.specs.Lookup.{LiveRows, picker_in}
use Rattle.change_state.specs.declared.states.Tally.{Tally}
use Rattle.change_state.specs.Numbers.{IsTally}
use Rattle.change_tally.specs.declared.standing.Standing.{Standing}

-- with some cells beside them, the rows are the live records of a picker and the counts those of its partials; row k is piece i's
pub record TalliesBeside (s : Shape) (words rows counts : List ℕ) (k i : ℕ) : Type 0 where
  pub live : ℕ
  pub cells : List ℕ
  pub rows_live : LiveRows s live rows words cells
  pub counted : CountsHeld (picker_in live rows words cells) live counts
  pub there : k < live
  pub piece : (row_at rows k).index ≡ i

-- the numbers are those of partial k of every such picker
pub record Tallied (s : Shape) (words rows counts : List ℕ) (k : ℕ) (t : Tally) : Type 0 where
  pub is : (live : ℕ) (cells : List ℕ) → LiveRows s live rows words cells → CountsHeld (picker_in live rows words cells) live counts
      → IsTally t (partial_in (picker_in live rows words cells) k)

-- what stands in row k: the place of the partial's blocks, its flags, the numbers of its blocks, and how many of them are finished
pub record StandsIn (s : Shape) (words rows counts : List ℕ) (k : ℕ) (r : Standing) : Type 0 where
  pub place : r.place ≡ (row_at rows k).info_idx
  pub flags : r.flags ≡ (row_at rows k).flags
  pub tally : Tallied s words rows counts k r.tally
  pub finished : CountSays counts k Finished r.finished
