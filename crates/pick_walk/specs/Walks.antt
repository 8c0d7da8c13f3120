-- The random walk round the torrent, as the code's numbers mean it, and what a step of it has done. Assumes nothing.
use Rattle.std.specs.Prelude.{ℕ, suc, ◌+◌, ◌-◌, ◌≤◌, ◌<◌, ◌≡◌, Bool, true, cond, List, leb, length}
use Rattle.model.specs.Lists.{nth}
use Rattle.model.specs.State.{Picker}
use Rattle.model.specs.Options.{rand_start_loops, rand_loops}
use Rattle.model.specs.pick.Blocks.{PickRequest}
use Rattle.model.specs.pick.Pick.{Trace, RandomWalk, skip, lap_ends}
use Rattle.memory_records.specs.declared.record.DownloadingPiece.{DownloadingPiece as Record}
use Rattle.memory_layout.specs.declared.shape.Shape.{Shape}
use Rattle.memory_layout.specs.Decode.{decode}
use Rattle.memory_layout.specs.Bounds.{InBounds}
use Rattle.pick_state.specs.declared.request.PickRequest.{PickRequest as Request}
use Rattle.pick_state.specs.PickStates.{state_of, OutKept}
use Rattle.pick_state.specs.Room.{Working}
use Rattle.pick_free.specs.Picking.{PicksCells}
use Rattle.pick_runs.specs.Spans.{marks}
use Rattle.pick_walk.specs.declared.walk.Trace.{Trace as Seen}
use Rattle.pick_walk.specs.declared.walk.RandomWalk.{RandomWalk as Walk}

-- ---- pieces
-- the piece after i, round so many
unfoldable pub next_piece : (pieces i : ℕ) → ℕ
next_piece pieces i = cond (leb pieces (suc i)) 0 (suc i)

-- d stands in these cells, beside some records and words in bounds
pub record InCells (s : Shape) (cells : List ℕ) (d : Picker) : Type 0 where
  pub records : List Record
  pub words : List ℕ
  pub bounds : InBounds s records words cells
  pub is : d ≡ decode records words cells

-- a picker stands in the cells, and the bitfield has a bit for each piece
pub record WalkCells (s : Shape) (cells : List ℕ) (q : Request) : Type 0 where
  pub picker : Picker
  pub stands : InCells s cells picker
  pub picks : PicksCells s cells q

-- ---- the walk
-- what was seen, of a pick whose output starts at `start`; `base` pieces were ignored when the walk began
unfoldable pub trace_of : (start base : ℕ) (x : Seen) → Trace
trace_of start base x = record { taken = x.taken - start; aside = x.aside; ignored = base + x.ignored }

-- the walk of a pick
unfoldable pub walk_of : (start base : ℕ) (d : Picker) (x : Walk) (out aside : List ℕ) (ignored : List Bool) (loops : List ℕ) → RandomWalk
walk_of start base d x out aside ignored loops =
    record {
      work = state_of start d x.work out aside ignored loops;
      place = x.place;
      back = x.back;
      seen = trace_of start base x.seen;
      over = x.over;
    }

-- at another piece
unfoldable pub moved : (place : ℕ) (back : Bool) (x : Walk) → Walk
moved place back x = record { work = x.work; place = place; back = back; seen = x.seen; over = x.over; marks = x.marks }

-- over
unfoldable pub ended : (x : Walk) → Walk
ended x = record { work = x.work; place = x.place; back = x.back; seen = x.seen; over = true; marks = x.marks }

-- what the walk has come to
unfoldable pub trace_now : (x : Walk) → Seen
trace_now x = record { taken = x.work.end; aside = x.work.aside; ignored = x.marks }

-- with that seen anew where it came back to the start
unfoldable pub marked : (x : Walk) → Walk
marked x =
    record {
      work = x.work;
      place = x.place;
      back = x.back;
      seen = cond x.back (trace_now x) x.seen;
      over = x.over;
      marks = x.marks;
    }

-- the numbers of what was seen are those of the definition
pub record Sees (start base : ℕ) (x : Walk) (out aside : List ℕ) (ignored : List Bool) : Type 0 where
  pub since : start ≤ x.seen.taken
  pub seen : x.seen.taken ≤ x.work.end
  pub within : x.work.end ≤ length out
  pub within_aside : x.work.aside ≤ length aside
  pub marked : marks ignored ≡ base + x.marks

-- ---- tests
-- r is told by the cells of each picker that stands in them
pub record Tells (s : Shape) (cells : List ℕ) (test : Picker → Bool) (r : Bool) : Type 0 where
  pub is : (d : Picker) → InCells s cells d → r ≡ test d

-- whether a lap ends at x
pub record LapTold (a : PickRequest) (s : Shape) (cells : List ℕ) (ignored : List Bool) (x : Walk) (r : Bool) : Type 0 where
  pub is : (start base : ℕ) (d : Picker) (out aside loops : List ℕ) → InCells s cells d → Sees start base x out aside ignored
      → r ≡ lap_ends a (walk_of start base d x out aside ignored loops)

-- ---- skipping
-- pieces were passed over, each of them counted: at most n
pub record Skipped (a : PickRequest) (first : ℕ) (s : Shape) (cells : List ℕ) (n : ℕ) (x y : Walk) (ignored : List Bool) (loops loops' : List ℕ)
    : Type 0 where
  pub is : (start base : ℕ) (d : Picker) (out aside : List ℕ) → InCells s cells d
      → walk_of start base d y out aside ignored loops' ≡ skip a first (walk_of start base d x out aside ignored loops)
  pub moved : y ≡ moved y.place y.back x
  pub place : y.place < s.pieces
  pub long : length loops' ≡ length loops
  pub starts : nth 0 loops' rand_start_loops ≤ nth 0 loops rand_start_loops + n
  pub blocks : nth 0 loops' rand_loops ≡ nth 0 loops rand_loops

-- ---- a step
-- a step of the walk was made, and the pick has the room that it had; at most n pieces were passed over and m blocks counted
pub record WalkDid (n m : ℕ) (step : RandomWalk → RandomWalk) (s : Shape) (d : Picker) (x y : Walk) (out aside : List ℕ) (ignored : List Bool)
    (loops out' aside' : List ℕ) (ignored' : List Bool) (loops' : List ℕ) : Type 0 where
  pub is : (start base : ℕ) → Sees start base x out aside ignored
      → walk_of start base d y out' aside' ignored' loops' ≡ step (walk_of start base d x out aside ignored loops)
  pub sees : (start base : ℕ) → Sees start base x out aside ignored → Sees start base y out' aside' ignored'
  pub working : (start N R : ℕ) → Working start N R d x.work out aside ignored loops → Working start N R d y.work out' aside' ignored' loops'
  pub place : y.place < s.pieces
  pub kept : OutKept x.work y.work out out'
  pub long_aside : length aside' ≡ length aside
  pub long_ignored : length ignored' ≡ length ignored
  pub long_loops : length loops' ≡ length loops
  pub starts : nth 0 loops' rand_start_loops ≤ nth 0 loops rand_start_loops + n
  pub blocks : nth 0 loops' rand_loops ≤ nth 0 loops rand_loops + m
