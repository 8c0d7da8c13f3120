-- The walk over recent extents, as the code's numbers mean it, and a phase that changes the picker in the words. Assumes nothing.
use Rattle.std.specs.Prelude.{ℕ, ◌≤◌, ◌<◌, ◌≡◌, Bool, true, false, cond, List, length}
use Rattle.std.proofs.Math.Option.{Option, none, some}
use Rattle.model.specs.Lists.{from, len, remove_nth, walk}
use Rattle.model.specs.State.{Picker, with_recent_extents}
use Rattle.model.specs.pick.Blocks.{PickRequest as Request, PickState, spent}
use Rattle.model.specs.pick.Pick.{ExtentWalk, extent_step}
use Rattle.memory_layout.specs.declared.shape.Shape.{Shape}
use Rattle.memory_layout.specs.Stores.{WordsKept}
use Rattle.memory_rows.specs.Lookup.{picker_in}
use Rattle.pick_state.specs.declared.numbers.PickNumbers.{PickNumbers}
use Rattle.pick_state.specs.declared.request.PickRequest.{PickRequest}
use Rattle.pick_state.specs.PickStates.{state_of, OutKept}
use Rattle.pick_state.specs.Room.{Underway}
use Rattle.pick_free.specs.Picking.{Picks}
use Rattle.pick_extents.specs.declared.ExtentWalk.{ExtentWalk as Numbers}

-- ---- the walk
-- a flag and a number
unfoldable pub finished_at : (found : Bool) (place : ℕ) → Option ℕ
finished_at found place = cond found (some place) none

-- what it has come to
unfoldable pub walk_of : (start : ℕ) (d : Picker) (x : Numbers) (out aside : List ℕ) (ignored : List Bool) (loops : List ℕ) → ExtentWalk
walk_of start d x out aside ignored loops =
    record { work = state_of start d x.numbers out aside ignored loops; finished = finished_at x.found x.place }

-- `step` was made on it, whatever the counters, and the pick is under way still
pub record ExtentsDid (step : ExtentWalk → ExtentWalk) (d : Picker) (x r : Numbers) (out aside : List ℕ) (ignored : List Bool)
    (out' aside' : List ℕ) (ignored' : List Bool) (loops : List ℕ) : Type 0 where
  pub is : (start : ℕ) → start ≤ x.numbers.end
      → walk_of start d r out' aside' ignored' loops ≡ step (walk_of start d x out aside ignored loops)
  pub kept : OutKept x.numbers r.numbers out out'
  pub long_aside : length aside' ≡ length aside
  pub long_ignored : length ignored' ≡ length ignored
  pub underway : Underway d r.numbers out' aside' ignored' loops

-- the same, wherever the pick is under way
abbrev pub ExtentsBeside : (step : ExtentWalk → ExtentWalk) (d : Picker) (x r : Numbers) (out aside : List ℕ) (ignored : List Bool)
    (out' aside' : List ℕ) (ignored' : List Bool) → Type 0
ExtentsBeside step d x r out aside ignored out' aside' ignored' =
    (loops : List ℕ) → Underway d x.numbers out aside ignored loops → ExtentsDid step d x r out aside ignored out' aside' ignored' loops

-- nothing is found yet
unfoldable pub first_walk : (t : PickNumbers) → Numbers
first_walk t = record { numbers = t; found = false; place = 0 }

-- all extents of picker d in turn
unfoldable pub walked_extents : (a : Request) (d : Picker) (x : ExtentWalk) → ExtentWalk
walked_extents a d x = walk (extent_step a) (λ y. spent y.work) (from 0 (len d.recent_extents)) x

-- what was found stands before place n
pub record FoundBelow (n : ℕ) (x : Numbers) : Type 0 where
  pub below : x.found ≡ true → x.place < n

-- ---- words that change
-- an extent goes, where one was found
unfoldable pub forgotten : (found : Bool) (place : ℕ) (d : Picker) → Picker
forgotten found place d = cond found (with_recent_extents (remove_nth place d.recent_extents) d) d

-- `step` was made, and led from the picker in the words to another one there: a well-formed picker still stands, the pick is under way
pub record Moved (step : PickState → PickState) (s : Shape) (live : ℕ) (rows words words' cells : List ℕ) (q : PickRequest) (t r : PickNumbers)
    (out aside : List ℕ) (ignored : List Bool) (loops : List ℕ) (out' aside' : List ℕ) (ignored' : List Bool) (loops' : List ℕ) : Type 0 where
  pub is : (start : ℕ) → start ≤ t.end
      → state_of start (picker_in live rows words' cells) r out' aside' ignored' loops'
      ≡ step (state_of start (picker_in live rows words cells) t out aside ignored loops)
  pub kept : OutKept t r out out'
  pub long_aside : length aside' ≡ length aside
  pub long_ignored : length ignored' ≡ length ignored
  pub long_loops : length loops' ≡ length loops
  pub picks : Picks s live rows words' cells q
  pub words_kept : WordsKept s words words'
  pub underway : Underway (picker_in live rows words' cells) r out' aside' ignored' loops'

-- whatever the counters: they stay
abbrev pub MovedBeside : (step : PickState → PickState) (s : Shape) (live : ℕ) (rows words words' cells : List ℕ) (q : PickRequest)
    (t r : PickNumbers) (out aside : List ℕ) (ignored : List Bool) (out' aside' : List ℕ) (ignored' : List Bool) → Type 0
MovedBeside step s live rows words words' cells q t r out aside ignored out' aside' ignored' =
    (loops : List ℕ) → Underway (picker_in live rows words cells) t out aside ignored loops
    → Moved step s live rows words words' cells q t r out aside ignored loops out' aside' ignored' loops
