-- What a pick's functions rely on: a well-formed picker stands in the buffers, the rows are its live records, and the bitfield lent has a
-- bit for each piece. Assumes nothing.
use Rattle.std.specs.Prelude.{ℕ, ◌≤◌, ◌≡◌, List}
use Rattle.memory_layout.specs.declared.shape.Shape.{Shape}
use Rattle.memory_layout.specs.Bounds.{CellsSpan}
use Rattle.pick_state.specs.declared.request.PickRequest.{PickRequest}
use Rattle.ask_picker.specs.Asked.{Asked}

pub record Picks (s : Shape) (live : ℕ) (rows words cells : List ℕ) (q : PickRequest) : Type 0 where
  pub asked : Asked s live rows words cells
  pub bits : q.bits ≡ s.pieces

-- what the tests of a piece and the span around it rely on, which read the cells alone
pub record PicksCells (s : Shape) (cells : List ℕ) (q : PickRequest) : Type 0 where
  pub span : CellsSpan s cells
  pub bits : q.bits ≡ s.pieces
  pub some : 1 ≤ s.blocks
