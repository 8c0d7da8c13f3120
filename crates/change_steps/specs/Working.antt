-- A picker on its way through a change, and what a step of the change leaves. Between the store of a block and the piece's new state the
-- picker is not well-formed; what holds all the way is that its list is right, with the ranks in it. Assumes nothing.
use Rattle.std.specs.Prelude.{ℕ, ◌≡◌, List}
use Rattle.model.specs.State.{Picker}
use Rattle.model.specs.list.Order.{Drawing, drawing}
use Rattle.model.specs.list.Listed.{ListingOk}
use Rattle.memory_records.specs.declared.record.DownloadingPiece.{DownloadingPiece as Record}
use Rattle.memory_layout.specs.declared.shape.Shape.{Shape}
use Rattle.memory_layout.specs.Decode.{decode}
use Rattle.memory_layout.specs.Bounds.{InBounds, Plain}
use Rattle.memory_layout.specs.Stores.{WordsKept, CellsKept, ListKept}
use Rattle.memory_ranks.specs.CellRanks.{Ranges}
use Rattle.memory_list.specs.Listings.{RanksRight}

-- in bounds and plain, peer counts and priorities in range; the list dirty or right, and beside each of its pieces the piece's rank
pub record Works (s : Shape) (records : List Record) (words cells : List ℕ) : Type 0 where
  pub bounds : InBounds s records words cells
  pub plain : Plain s records words cells
  pub ranges : Ranges s.pieces cells
  pub ranks : RanksRight s words cells
  pub listed : ListingOk (decode records words cells)

-- it is so with some records beside these words and cells
pub record WorksBeside (s : Shape) (words cells : List ℕ) : Type 0 where
  pub records : List Record
  pub works : Works s records words cells

-- the picker and the number of the next draw went through `step`, and nothing beyond the needs moved
pub record Went (s : Shape) (step : Drawing → Drawing) (records : List Record) (words cells : List ℕ) (used : ℕ) (records' : List Record)
    (words' cells' : List ℕ) (next : ℕ) : Type 0 where
  pub is : drawing next (decode records' words' cells') ≡ step (drawing used (decode records words cells))
  pub works : Works s records' words' cells'
  pub words_kept : WordsKept s words words'
  pub cells_kept : CellsKept s cells cells'

-- and that with whichever records stand beside them, which stay
pub record Goes (s : Shape) (step : Drawing → Drawing) (words cells : List ℕ) (used : ℕ) (words' cells' : List ℕ) (next : ℕ) : Type 0 where
  pub went : (records : List Record) → Works s records words cells → Went s step records words cells used records words' cells' next

-- `change` is stored, and the list is as it was, still to be mended
pub record Stored (s : Shape) (change : Picker → Picker) (records : List Record) (words cells : List ℕ) (records' : List Record)
    (words' cells' : List ℕ) : Type 0 where
  pub is : decode records' words' cells' ≡ change (decode records words cells)
  pub bounds : InBounds s records' words' cells'
  pub plain : Plain s records' words' cells'
  pub ranges : Ranges s.pieces cells'
  pub list : ListKept s words words'
  pub words_kept : WordsKept s words words'
  pub cells_kept : CellsKept s cells cells'
