-- What the code's values mean as the definition's state of a pick, and what a step has done to them. Assumes nothing.
use Rattle.std.specs.Prelude.{ℕ, ◌+◌, ◌-◌, ◌/◌, ◌%◌, ◌≤◌, ◌<◌, ◌≡◌, Bool, List, length, get_or, take, drop}
use Rattle.model.specs.Lists.{each, len}
use Rattle.model.specs.State.{Picker}
use Rattle.model.specs.pick.Blocks.{Contiguous, PieceBlock, piece_block, PickState}
use Rattle.pick_state.specs.declared.numbers.PickNumbers.{PickNumbers}

-- ---- blocks as words
unfoldable pub block_from : (word : ℕ) → PieceBlock
block_from word = piece_block (word / 65536) (word % 65536)

-- those at the places from `start` up to `end`
unfoldable pub blocks_between : (start end : ℕ) (words : List ℕ) → List PieceBlock
blocks_between start end words = each block_from (take (end - start) (drop start words))

-- ---- the numbers
-- the run
unfoldable pub contiguous_of : (t : PickNumbers) → Contiguous
contiguous_of t = record { asked = t.asked; given = t.given }

-- other flags
unfoldable pub with_flags : (flags : ℕ) (t : PickNumbers) → PickNumbers
with_flags flags t =
    record {
      left = t.left;
      asked = t.asked;
      given = t.given;
      used = t.used;
      flags = flags;
      end = t.end;
      aside = t.aside;
    }

-- so many blocks given towards the run
unfoldable pub with_given : (given : ℕ) (t : PickNumbers) → PickNumbers
with_given given t =
    record {
      left = t.left;
      asked = t.asked;
      given = given;
      used = t.used;
      flags = t.flags;
      end = t.end;
      aside = t.aside;
    }

-- ---- the state
-- of a pick whose output starts at `start`, behind what was there
unfoldable pub state_of : (start : ℕ) (d : Picker) (t : PickNumbers) (out aside : List ℕ) (ignored : List Bool) (loops : List ℕ) → PickState
state_of start d t out aside ignored loops =
    record {
      picker = d;
      used = t.used;
      left = t.left;
      contiguous = contiguous_of t;
      out = blocks_between start t.end out;
      backup = blocks_between 0 t.aside aside;
      ignored = ignored;
      flags = t.flags;
      loops = loops;
    }

-- ---- a step
-- only the places from the old end of the output to the new one were written
pub record OutKept (t r : PickNumbers) (out out' : List ℕ) : Type 0 where
  pub rises : t.end ≤ r.end
  pub long : length out' ≡ length out
  pub others : (k : ℕ) → (t.end ≤ k → k < r.end → ⊥) → get_or out' k 0 ≡ get_or out k 0

-- `step` was made on the output, whatever stands beside it; at most n blocks were appended
pub record OutDid (step : PickState → PickState) (n : ℕ) (t r : PickNumbers) (out out' : List ℕ) : Type 0 where
  pub is : (start : ℕ) (d : Picker) (aside : List ℕ) (ignored : List Bool) (loops : List ℕ) → start ≤ t.end
      → state_of start d r out' aside ignored loops ≡ step (state_of start d t out aside ignored loops)
  pub kept : OutKept t r out out'
  pub few : r.end ≤ t.end + n
  pub given : r.given ≤ t.given + n

-- `step` was made on the blocks set aside, whatever stands beside them; at most n were set aside
pub record AsideDid (step : PickState → PickState) (n : ℕ) (t r : PickNumbers) (aside aside' : List ℕ) : Type 0 where
  pub is : (start : ℕ) (d : Picker) (out : List ℕ) (ignored : List Bool) (loops : List ℕ)
      → state_of start d r out aside' ignored loops ≡ step (state_of start d t out aside ignored loops)
  pub long : length aside' ≡ length aside
  pub end : r.end ≡ t.end
  pub few : r.aside ≤ t.aside + n

-- `step` was made on all of it, the picker d as it is
pub record Did (step : PickState → PickState) (d : Picker) (t r : PickNumbers) (out aside : List ℕ) (ignored : List Bool) (loops : List ℕ)
    (out' aside' : List ℕ) (ignored' : List Bool) (loops' : List ℕ) : Type 0 where
  pub is : (start : ℕ) → start ≤ t.end
      → state_of start d r out' aside' ignored' loops' ≡ step (state_of start d t out aside ignored loops)
  pub kept : OutKept t r out out'
  pub long_aside : length aside' ≡ length aside
  pub long_ignored : length ignored' ≡ length ignored
  pub long_loops : length loops' ≡ length loops

-- ---- the room
-- N blocks were wanted and a run of R: what is appended, set aside and counted has the room that the call was lent. The model's bounds
-- (at most N + R + 255 appended, 255 set aside past those still wanted) keep it so
pub record Roomy (start N R : ℕ) (w : PickState) (out aside : List ℕ) : Type 0 where
  pub wanted : N ≤ 2048
  pub run : R ≤ 2048
  pub rest : w.left ≡ N - len w.out
  pub few : len w.out ≤ N + R + 255
  pub backup : len w.backup ≤ 2303
  pub asked : w.contiguous.asked ≤ R
  pub given : w.contiguous.given ≤ 65536
  pub marks : length w.ignored ≡ 4096
  pub counters : length w.loops ≡ 7
  pub room : start + N + R + 255 ≤ length out
  pub room_aside : w.left + 256 ≤ length aside
  pub within_aside : len w.backup < length aside
