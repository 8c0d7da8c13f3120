-- A piece opened, and its first block marked. Assumes nothing.
use Rattle.std.specs.Prelude.{ℕ, ◌≡◌, Bool, List}
use Rattle.std.proofs.Math.Option.{some}
use Rattle.types.specs.declared.queue.DownloadQueue.{DownloadQueue}
use Rattle.model.specs.list.Order.{Draws, drawing}
use Rattle.model.specs.change.Changes.{mark_opening}
use Rattle.memory_records.specs.declared.record.DownloadingPiece.{DownloadingPiece as Record}
use Rattle.memory_records.specs.declared.edits.Edit.TheVariants.{Insert}
use Rattle.memory_records.specs.Records.{edited}
use Rattle.memory_layout.specs.declared.shape.Shape.{Shape}
use Rattle.memory_layout.specs.Decode.{decode}
use Rattle.memory_blocks.specs.declared.info.BlockInfo.{BlockInfo}
use Rattle.memory_blocks.specs.Blocks.{block_of}
use Rattle.change_steps.specs.Working.{Went}
use Rattle.change_adding.specs.Adding.{Vacant}
use Rattle.change_first_mark.specs.declared.marks.Marked.{Marked}

-- the definition's `mark_opening`, with the record put in
pub record OpeningMarked (s : Shape) (draws : Draws) (i : ℕ) (q : DownloadQueue) (affinity : Bool) (j : ℕ) (x : BlockInfo) (live : ℕ)
    (rows words cells : List ℕ) (used : ℕ) (words' cells' : List ℕ) (r : Marked) : Type 0 where
  pub answer : (records : List Record) → Vacant s i live rows records words cells
      → (mark_opening draws i q affinity j (block_of x) (drawing used (decode records words cells))).answer ≡ some r.answer
  pub went : (records : List Record) → Vacant s i live rows records words cells
      → Went s (λ w. (mark_opening draws i q affinity j (block_of x) w).after) records words cells used
      (edited live (Insert r.partial) records) words' cells' r.used
