-- What the public `pick_pieces` does with any buffers that are lent to it, the output among them. Its contract cites `PickCalled`, and
-- nothing else. Assumes nothing.
use Rattle.std.specs.Prelude.{◌≡◌, List, ℕ, ◌-◌, ◌≤◌, ◌<◌, length, get_or}
use Rattle.types.specs.declared.refusal.Refusal.{Refusal}
use Rattle.model.specs.list.Order.{Draws}
use Rattle.model.specs.pick.Blocks.{PickRequest}
use Rattle.model.specs.Calls.{do_pick_pieces, Answer, refused, picked}
use Rattle.pick_state.specs.PickStates.{blocks_between}
use Rattle.picker_calls.specs.Calling.{Lent, Called}

-- what is answered beside the output: a refusal, or where the output ends, the flags, the seven counters and the draws used
pub data PickAnswer : Type 0 where
  not_picked : (why : Refusal) → PickAnswer
  gave : (end flags : ℕ) → (loops : List ℕ) → (used : ℕ) → PickAnswer

-- the same in the definition: the blocks are those that stand in the output from `start` to its end
unfoldable pub pick_answer : (start : ℕ) (out : List ℕ) (r : PickAnswer) → Answer
pick_answer start out (not_picked why) = refused why
pick_answer start out (gave end flags loops used) = picked (blocks_between start end out) flags loops used

-- only the places from `start` to `end`, which are there, were written
pub record Appended (start end : ℕ) (before after : List ℕ) : Type 0 where
  pub rises : start ≤ end
  pub within : end ≤ length after
  pub long : length after ≡ length before
  pub others : (k : ℕ) → (start ≤ k → k < end → ⊥) → get_or after k 0 ≡ get_or before k 0

-- refused: the output as it was; done: earlier output stays, and so does what lies behind
unfoldable pub OutputKept : (start : ℕ) (before after : List ℕ) (r : PickAnswer) → Type 0
OutputKept start before after (not_picked why) = after ≡ before
OutputKept start before after (gave end flags loops used) = Appended start end before after

-- a pick that appends from place `start` of the output `out` left the buffers as `exit`, the output as `out'`, and was answered r. The free
-- places are those from `start` on
pub record PickCalled (entry : Lent) (request : PickRequest) (draws : Draws) (start : ℕ) (out : List ℕ) (exit : Lent) (out' : List ℕ)
    (r : PickAnswer) : Type 0 where
  pub called : Called entry (do_pick_pieces request (length out - start) draws) exit (pick_answer start out' r)
  pub output : OutputKept start out out' r
