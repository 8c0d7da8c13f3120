-- A whole change, from a picker that stands to what a call has to leave. Assumes nothing.
use Rattle.std.specs.Prelude.{ℕ, ◌≤◌, ◌≡◌, List, length}
use Rattle.model.specs.list.Order.{Drawing, drawing}
use Rattle.memory_records.specs.declared.record.DownloadingPiece.{DownloadingPiece as Record}
use Rattle.memory_records.specs.declared.edits.Edit.{Edit}
use Rattle.memory_records.specs.Records.{HasRoom}
use Rattle.memory_layout.specs.declared.shape.Shape.{Shape}
use Rattle.memory_layout.specs.Decode.{decode}
use Rattle.memory_layout.specs.Standing.{Stands, Changed}
use Rattle.change_steps.specs.Working.{Went}

-- the picker with these records is changed as `step` changes it from the first draw on, and so many draws are used
pub record Done (s : Shape) (step : Drawing → Drawing) (records : List Record) (words cells : List ℕ) (records' : List Record)
    (words' cells' : List ℕ) (used : ℕ) : Type 0 where
  pub changed : Changed s (step (drawing 0 (decode records words cells))).picker words cells records' words' cells'
  pub draws : used ≡ (step (drawing 0 (decode records words cells))).used

-- the one edit of the live records that goes with it can be made in as many lent records as there are places
pub record EditRoom (s : Shape) (live : ℕ) (edit : Edit) : Type 0 where
  pub fits : (lent : List Record) → s.places ≤ length lent → HasRoom live edit lent

-- and that with whichever records make a picker stand, which stay
pub record ChangedBy (s : Shape) (step : Drawing → Drawing) (words cells : List ℕ) (words' cells' : List ℕ) (used : ℕ) : Type 0 where
  pub done : (records : List Record) → Stands s records words cells → Done s step records words cells records words' cells' used

-- the first steps of a whole change, with whichever records make a picker stand, which stay
pub record Begins (s : Shape) (step : Drawing → Drawing) (words cells : List ℕ) (words' cells' : List ℕ) (next : ℕ) : Type 0 where
  pub went : (records : List Record) → Stands s records words cells → Went s step records words cells 0 records words' cells' next
