-- Whole marks: what one relies on, and what it leaves once its edit of the records is made. Assumes nothing.
use Rattle.std.specs.Prelude.{ℕ, ◌≡◌, Bool, false, cond, List, length}
use Rattle.std.proofs.Math.Option.{none, some}
use Rattle.types.specs.declared.queue.DownloadQueue.TheVariants.{Downloading}
use Rattle.model.specs.State.{Block, piece_at}
use Rattle.model.specs.list.Order.{Draws, Drawing, drawing}
use Rattle.model.specs.change.Partials.{partial_of}
use Rattle.model.specs.change.Changes.{Change, saying, mark_opening}
use Rattle.memory_records.specs.declared.record.DownloadingPiece.{DownloadingPiece as Record}
use Rattle.memory_records.specs.Rows.{records_in}
use Rattle.memory_layout.specs.declared.shape.Shape.{Shape}
use Rattle.memory_layout.specs.Decode.{head_word, decode}
use Rattle.memory_layout.specs.Standing.{Stands}
use Rattle.change_steps.specs.Whole.{Done}
use Rattle.change_tally.specs.RowsStanding.{RowsStand}

-- ---- before
-- a picker stands with the live rows for its records beside these cells
pub record RowsBeside (s : Shape) (live : ℕ) (rows cells : List ℕ) : Type 0 where
  pub words : List ℕ
  pub counts : List ℕ
  pub stand : RowsStand s live rows counts words cells

-- a picker stands with the live rows for its records, and none of them is of piece i
pub record RowsVacant (s : Shape) (live : ℕ) (rows words cells : List ℕ) (i : ℕ) : Type 0 where
  pub stands : Stands s (records_in live rows) words cells
  pub many : live ≡ head_word words 7
  pub long : length rows ≡ 1536
  pub vacant : partial_of (decode (records_in live rows) words cells) i ≡ none

-- ---- after
-- the picker and the draws are changed as `mark` changes them from the first draw on, and the answer is the definition's
pub record MarkDone (s : Shape) (mark : (w : Drawing) → Change) (records : List Record) (words cells : List ℕ) (records' : List Record)
    (words' cells' : List ℕ) (answer : Bool) (used : ℕ) : Type 0 where
  pub done : Done s (λ w. (mark w).after) records words cells records' words' cells' used
  pub says : (mark (drawing 0 (decode records words cells))).answer ≡ some answer

-- a block that came of a piece without a partial: ignored where the piece is flushed
abbrev pub mark_arrived : (draws : Draws) (i j : ℕ) (b : Block) (w : Drawing) → Change
mark_arrived draws i j b w = cond (piece_at w.picker i).flushed (saying false w) (mark_opening draws i Downloading false j b w)
