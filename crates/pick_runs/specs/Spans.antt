-- What a run of the random walk has done: a span's blocks, pads too, each counted; and how many pieces were marked. Assumes nothing.
use Rattle.std.specs.Prelude.{ℕ, ◌+◌, ◌≤◌, ◌<◌, ◌≡◌, Bool, List, length}
use Rattle.model.specs.Lists.{count, nth}
use Rattle.model.specs.State.{Picker, blocks_in_piece}
use Rattle.model.specs.Options.{rand_start_loops, rand_loops}
use Rattle.model.specs.pick.Blocks.{PickState}
use Rattle.memory_layout.specs.declared.shape.Shape.{Shape}
use Rattle.pick_state.specs.declared.numbers.PickNumbers.{PickNumbers}
use Rattle.pick_new.specs.Runs.{RunDid, RunRoom}

-- piece k has n blocks
abbrev pub HasBlocks : (k n : ℕ) (d : Picker) → Type 0
HasBlocks k n d = n ≡ blocks_in_piece d k

-- the pieces ignored
unfoldable pub marks : (ignored : List Bool) → ℕ
marks ignored = count (λ b. b) ignored

-- ---- the counters
-- at most n blocks more are counted, and no piece passed over
pub record Counts (n : ℕ) (loops loops' : List ℕ) : Type 0 where
  pub blocks : nth 0 loops' rand_loops ≤ nth 0 loops rand_loops + n
  pub starts : nth 0 loops' rand_start_loops ≡ nth 0 loops rand_start_loops

-- n blocks more can be counted
pub record CountRoom (n : ℕ) (loops : List ℕ) : Type 0 where
  pub long : length loops ≡ 7
  pub blocks : nth 0 loops rand_loops + n < 9223372036854775808

-- ---- a step
-- of one piece, whatever is marked
pub record AllDid (Stands : Picker → Type 0) (step : PickState → PickState) (n : ℕ) (t r : PickNumbers) (out out' loops loops' : List ℕ)
    : Type 0 where
  pub run : (ignored : List Bool) → RunDid Stands step n t r out out' ignored ignored loops loops'
  pub counts : Counts n loops loops'

-- of a span: m pieces were marked
pub record SpanDid (Stands : Picker → Type 0) (step : PickState → PickState) (n m : ℕ) (t r : PickNumbers) (out out' : List ℕ)
    (ignored ignored' : List Bool) (loops loops' : List ℕ) : Type 0 where
  pub run : RunDid Stands step n t r out out' ignored ignored' loops loops'
  pub counts : Counts n loops loops'
  pub marked : marks ignored' ≡ marks ignored + m

-- ---- the room
pub record SpanRoom (s : Shape) (words : List ℕ) (n : ℕ) (t : PickNumbers) (out : List ℕ) (ignored : List Bool) (loops : List ℕ)
    : Type 0 where
  pub run : RunRoom s words n t out ignored
  pub counters : CountRoom n loops
