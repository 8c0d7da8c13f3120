-- A turn of the random walk: what it relies on, and what it has done. Assumes nothing.
use Rattle.std.specs.Prelude.{ℕ, ◌+◌, ◌≤◌, ◌<◌, ◌≡◌, Bool, false, ◌&&◌, List, eqb}
use Rattle.model.specs.Lists.{nth}
use Rattle.model.specs.State.{Picker, is_open, piece_at}
use Rattle.model.specs.Options.{rand_loops}
use Rattle.model.specs.pick.Blocks.{contiguous_above}
use Rattle.model.specs.pick.Pick.{RandomWalk}
use Rattle.model.specs.image.Sound.{Sound}
use Rattle.memory_layout.specs.declared.shape.Shape.{Shape}
use Rattle.pick_state.specs.declared.numbers.PickNumbers.{PickNumbers}
use Rattle.pick_state.specs.declared.request.PickRequest.{PickRequest}
use Rattle.pick_state.specs.PickStates.{contiguous_of}
use Rattle.pick_state.specs.Room.{Underway}
use Rattle.pick_new.specs.Runs.{InBuffers, NewRoom}
use Rattle.pick_runs.specs.Spans.{CountRoom}
use Rattle.pick_walk.specs.declared.walk.RandomWalk.{RandomWalk as Walk}
use Rattle.pick_walk.specs.Walks.{Sees, WalkDid}

-- the walk goes on at a piece; onto the start ends it
unfoldable pub arrived : (first place marks : ℕ) (work : PickNumbers) (x : Walk) → Walk
arrived first place marks work x =
    record { work = work; place = place; back = false; seen = x.seen; over = eqb place first; marks = marks }

-- the walk stands at an Open piece, and more than a block is left of the run
unfoldable pub whole_span : (d : Picker) (x : Walk) → Bool
whole_span d x = contiguous_above 1 (contiguous_of x.work) && is_open (piece_at d x.place).state

-- ---- a turn
-- the pick is under way and wants blocks, what was seen is known from some start on, and a span's blocks can be counted
pub record Lapping (s : Shape) (d : Picker) (x : Walk) (out aside : List ℕ) (ignored : List Bool) (loops : List ℕ) : Type 0 where
  pub underway : Underway d x.work out aside ignored loops
  pub wanted : 1 ≤ x.work.left
  pub place : x.place < s.pieces
  pub start : ℕ
  pub base : ℕ
  pub sees : Sees start base x out aside ignored
  pub blocks : nth 0 loops rand_loops + 4096 < 9223372036854775808

-- the piece that the walk stands at is not ignored
abbrev pub Unmarked : (x : Walk) (ignored : List Bool) → Type 0
Unmarked x ignored = nth false ignored x.place ≡ false

-- ---- a span
-- room for its blocks, and for counting them
pub record SpanVisit (s : Shape) (words cells : List ℕ) (q : PickRequest) (x : Walk) (out : List ℕ) (ignored : List Bool) (loops : List ℕ)
    : Type 0 where
  pub room : NewRoom s words cells q x.work out ignored
  pub counters : CountRoom 4096 loops
  pub asked : x.work.asked ≤ 2048
  pub place : x.place < s.pieces
  pub marks : x.marks ≤ 4096
  pub left : 1 ≤ x.work.left

-- the step was made, for every picker that stands so and whatever is set aside in a pick under way
abbrev pub SpanWalked : (step : RandomWalk → RandomWalk) (s : Shape) (words cells : List ℕ) (x y : Walk) (out out' : List ℕ)
    (ignored ignored' : List Bool) (loops loops' : List ℕ) → Type 0
SpanWalked step s words cells x y out out' ignored ignored' loops loops' =
    (d : Picker) → InBuffers s words cells d → Sound d → (aside : List ℕ) → Underway d x.work out aside ignored loops
    → WalkDid 0 4096 step s d x y out aside ignored loops out' aside ignored' loops'

-- ---- a piece
-- the step was made, whatever the counters: they stay
abbrev pub PieceWalked : (step : RandomWalk → RandomWalk) (s : Shape) (d : Picker) (x y : Walk) (out aside : List ℕ) (ignored : List Bool)
    (out' aside' : List ℕ) (ignored' : List Bool) → Type 0
PieceWalked step s d x y out aside ignored out' aside' ignored' =
    (loops : List ℕ) → Underway d x.work out aside ignored loops
    → WalkDid 0 0 step s d x y out aside ignored loops out' aside' ignored' loops
