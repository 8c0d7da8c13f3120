-- What a call may rely on and what it has to leave: buffers in which a well-formed picker stands, what a change makes of them, and the one
-- edit of the records that goes with it. Assumes nothing.
use Rattle.std.specs.Prelude.{ℕ, ◌≡◌, true, List}
use Rattle.model.specs.State.{Picker}
use Rattle.model.specs.list.Order.{rank}
use Rattle.model.specs.image.WellFormed.{well_formed}
use Rattle.memory_records.specs.declared.record.DownloadingPiece.{DownloadingPiece as Record}
use Rattle.memory_records.specs.declared.edits.Edit.{Edit}
use Rattle.memory_records.specs.declared.edits.Edit.TheVariants.{Keep, Replace, Insert, Remove}
use Rattle.memory_records.specs.Records.{insert_record, without_record, replace_record}
use Rattle.memory_layout.specs.declared.shape.Shape.{Shape}
use Rattle.memory_layout.specs.Decode.{decode}
use Rattle.memory_layout.specs.Bounds.{InBounds, Plain, RanksHeld}
use Rattle.memory_layout.specs.Stores.{WordsKept, CellsKept}

-- ---- before a change
-- a well-formed picker stands in the buffers: what a passed memory test gives, and what makes it pass
pub record Stands (s : Shape) (records : List Record) (words cells : List ℕ) : Type 0 where
  pub bounds : InBounds s records words cells
  pub plain : Plain s records words cells
  pub ranks : RanksHeld s.pieces words (rank (decode records words cells))
  pub sound : well_formed (decode records words cells) ≡ true

-- it does with some records beside these words and cells
pub record StandsBeside (s : Shape) (words cells : List ℕ) : Type 0 where
  pub records : List Record
  pub stands : Stands s records words cells

-- ---- after it
-- the picker is `after`, and all that the memory test asks for beside its being well-formed; the frame of both buffers
pub record Changed (s : Shape) (after : Picker) (words cells : List ℕ) (records' : List Record) (words' cells' : List ℕ) : Type 0 where
  pub is : decode records' words' cells' ≡ after
  pub bounds : InBounds s records' words' cells'
  pub plain : Plain s records' words' cells'
  pub ranks : RanksHeld s.pieces words' (rank (decode records' words' cells'))
  pub words_kept : WordsKept s words words'
  pub cells_kept : CellsKept s cells cells'

-- a change that leaves the records: whichever make a picker stand beside the buffers, it is changed so
pub record ChangeMade (s : Shape) (change : Picker → Picker) (words words' cells cells' : List ℕ) : Type 0 where
  pub made : (records : List Record) → Stands s records words cells
      → Changed s (change (decode records words cells)) words cells records words' cells'

-- ---- the edit
-- what one edit makes of the live records
unfoldable pub edit_records : (edit : Edit) (live : List Record) → List Record
edit_records Keep live = live
edit_records (Replace d) live = replace_record d live
edit_records (Insert d) live = insert_record d live
edit_records (Remove i) live = without_record i live
