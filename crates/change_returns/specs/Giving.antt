-- A change of a standing partial by one of its blocks, which can close the partial. Assumes nothing.
use Rattle.std.specs.Prelude.{ℕ, ◌≡◌, Bool, true, cond, List}
use Rattle.std.proofs.Math.Option.{Option, some}
use Rattle.model.specs.State.{DownloadingPiece}
use Rattle.model.specs.list.Order.{Drawing, drawing}
use Rattle.model.specs.change.Partials.{drop_partial}
use Rattle.memory_records.specs.declared.record.DownloadingPiece.{DownloadingPiece as Record}
use Rattle.memory_records.specs.declared.edits.Edit.{Edit}
use Rattle.memory_records.specs.declared.edits.Edit.TheVariants.{Keep, Remove}
use Rattle.memory_records.specs.Records.{edited}
use Rattle.memory_layout.specs.declared.shape.Shape.{Shape}
use Rattle.memory_layout.specs.Decode.{head_word, decode}
use Rattle.memory_layout.specs.Changes.{partial_in}
use Rattle.change_steps.specs.Working.{Went}

-- the edit of the records by whether piece i's partial is closed
abbrev pub closing : (i : ℕ) (closed : Bool) → Edit
closing i closed = cond closed (Remove i) Keep

-- `change` by the partial found, with whichever records stand beside that are `Placed`, once their one edit is made; where that closes
-- the partial, the others are as they were
pub record PartialChanged (s : Shape) (change : (found : Option DownloadingPiece) (w : Drawing) → Drawing) (i : ℕ)
    (Placed : (records : List Record) (k : ℕ) → Type 0) (words cells : List ℕ) (used : ℕ) (words' cells' : List ℕ) (edit : Edit) (next : ℕ)
    : Type 0 where
  pub closed : Bool
  pub edits : edit ≡ closing i closed
  pub went : (records : List Record) (k : ℕ) → Placed records k
      → Went s (change (some (partial_in (decode records words cells) k))) records words cells used
      (edited (head_word words 7) edit records) words' cells' next
  pub others : closed ≡ true → (records : List Record) (k : ℕ) → Placed records k
      → (change (some (partial_in (decode records words cells) k)) (drawing used (decode records words cells))).picker.partials
      ≡ (drop_partial i (decode records words cells)).partials
