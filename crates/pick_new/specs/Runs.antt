-- What a span of pieces has done to a pick: to its output, the marks of ignored pieces and the counters, whatever blocks are set aside.
-- Assumes nothing.
use Rattle.std.specs.Prelude.{ℕ, ◌+◌, ◌≤◌, ◌<◌, ◌≡◌, Bool, List, length}
use Rattle.memory_records.specs.declared.record.DownloadingPiece.{DownloadingPiece as Record}
use Rattle.memory_layout.specs.declared.shape.Shape.{Shape}
use Rattle.memory_layout.specs.Decode.{decode}
use Rattle.memory_layout.specs.Bounds.{InBounds}
use Rattle.model.specs.State.{Picker}
use Rattle.model.specs.pick.Blocks.{PickState}
use Rattle.pick_state.specs.declared.numbers.PickNumbers.{PickNumbers}
use Rattle.pick_state.specs.declared.request.PickRequest.{PickRequest}
use Rattle.pick_state.specs.PickStates.{state_of, OutKept}

-- ---- pickers
-- d stands in these words, beside some records and cells in bounds
pub record InWords (s : Shape) (words : List ℕ) (d : Picker) : Type 0 where
  pub records : List Record
  pub cells : List ℕ
  pub bounds : InBounds s records words cells
  pub is : d ≡ decode records words cells

-- d stands in these words and cells, beside some records in bounds
pub record InBuffers (s : Shape) (words cells : List ℕ) (d : Picker) : Type 0 where
  pub records : List Record
  pub bounds : InBounds s records words cells
  pub is : d ≡ decode records words cells

-- ---- a step
-- `step` was made, for every picker that stands so and whatever is set aside; at most n blocks were appended and given towards the run
pub record RunDid (Stands : Picker → Type 0) (step : PickState → PickState) (n : ℕ) (t r : PickNumbers) (out out' : List ℕ)
    (ignored ignored' : List Bool) (loops loops' : List ℕ) : Type 0 where
  pub is : (start : ℕ) (d : Picker) (aside : List ℕ) → Stands d → start ≤ t.end
      → state_of start d r out' aside ignored' loops' ≡ step (state_of start d t out aside ignored loops)
  pub kept : OutKept t r out out'
  pub few : r.end ≤ t.end + n
  pub given : r.given ≤ t.given + n
  pub marks : length ignored' ≡ length ignored
  pub counters : length loops' ≡ length loops

-- the same, whatever the counters: they stay
abbrev pub MarksDid : (Stands : Picker → Type 0) (step : PickState → PickState) (n : ℕ) (t r : PickNumbers) (out out' : List ℕ)
    (ignored ignored' : List Bool) → Type 0
MarksDid Stands step n t r out out' ignored ignored' = (loops : List ℕ) → RunDid Stands step n t r out out' ignored ignored' loops loops

-- ---- the room
-- a picker stands in the words, each piece has a mark, and so many blocks can be appended
pub record RunRoom (s : Shape) (words : List ℕ) (n : ℕ) (t : PickNumbers) (out : List ℕ) (ignored : List Bool) : Type 0 where
  pub picker : Picker
  pub stands : InWords s words picker
  pub marks : length ignored ≡ 4096
  pub room : t.end + n ≤ length out
  pub given : t.given + n < 4294967296

-- a picker stands in words and cells, the bitfield has a bit for each piece, and the blocks of the run and of a piece can be appended
pub record NewRoom (s : Shape) (words cells : List ℕ) (q : PickRequest) (t : PickNumbers) (out : List ℕ) (ignored : List Bool) : Type 0 where
  pub picker : Picker
  pub stands : InBuffers s words cells picker
  pub bits : q.bits ≡ s.pieces
  pub marks : length ignored ≡ 4096
  pub room : t.end + (t.asked + s.blocks) ≤ length out
  pub given : t.given + (t.asked + s.blocks) < 4294967296
