-- What `set_piece_priority` does and answers. Assumes nothing.
use Rattle.std.specs.Prelude.{ℕ, ◌≡◌, List}
use Rattle.std.proofs.Math.Option.{some}
use Rattle.model.specs.list.Order.{Draws, drawing}
use Rattle.model.specs.change.Changes.{set_piece_priority}
use Rattle.memory_records.specs.declared.record.DownloadingPiece.{DownloadingPiece as Record}
use Rattle.memory_layout.specs.declared.shape.Shape.{Shape}
use Rattle.memory_layout.specs.Decode.{decode}
use Rattle.change_steps.specs.Whole.{Done}
use Rattle.change_priority.specs.declared.changes.PrioritySet.{PrioritySet}

-- the change is made with these records, which stay, and the answer is the definition's
pub record Said (s : Shape) (draws : Draws) (i priority : ℕ) (records : List Record) (words cells words' cells' : List ℕ)
    (r : PrioritySet) : Type 0 where
  pub done : Done s (λ w. (set_piece_priority draws i priority w).after) records words cells records words' cells' r.used
  pub answer : (set_piece_priority draws i priority (drawing 0 (decode records words cells))).answer ≡ some r.turned
