-- A mark of a block whose piece has a partial, by the numbers of the partial's blocks. Assumes nothing.
use Rattle.std.specs.Prelude.{ℕ, ◌≡◌, Bool, List}
use Rattle.std.proofs.Math.Option.{some}
use Rattle.types.specs.Peer.{named_peer}
use Rattle.model.specs.State.{DownloadingPiece}
use Rattle.model.specs.list.Order.{Draws, Drawing, drawing}
use Rattle.model.specs.change.Changes.{Change, mark_writing_in}
use Rattle.memory_records.specs.declared.record.DownloadingPiece.{DownloadingPiece as Record}
use Rattle.memory_layout.specs.declared.shape.Shape.{Shape}
use Rattle.memory_layout.specs.Decode.{decode}
use Rattle.memory_layout.specs.Changes.{partial_in}
use Rattle.change_steps.specs.Working.{Went}
use Rattle.change_state.specs.declared.states.Tally.{Tally}
use Rattle.change_blocks.specs.Replacing.{TallyAt}
use Rattle.change_receipts.specs.declared.answers.Marked.{Marked}

-- the mark is made with whichever records stand beside, which stay, of the partial at place p; the answer is the definition's
pub record Marks (s : Shape) (mark : DownloadingPiece → Drawing → Change) (i p j : ℕ) (t : Tally) (words cells : List ℕ) (used : ℕ)
    (words' cells' : List ℕ) (r : Marked) : Type 0 where
  pub went : (records : List Record) (k : ℕ) → TallyAt s records words cells i p j t k
      → Went s (λ w. (mark (partial_in (decode records words cells) k) w).after) records words cells used records words' cells' r.used
  pub answer : (records : List Record) (k : ℕ) → TallyAt s records words cells i p j t k
      → (mark (partial_in (decode records words cells) k) (drawing used (decode records words cells))).answer ≡ some r.answer

-- the definition's `mark_writing_in` of one
pub record Written (s : Shape) (draws : Draws) (i p j : ℕ) (has : Bool) (peer : ℕ) (t : Tally) (words cells : List ℕ) (used : ℕ)
    (words' cells' : List ℕ) (r : Marked) : Type 0 where
  pub marks : Marks s (λ d. mark_writing_in draws i (some d) j (named_peer has peer)) i p j t words cells used words' cells' r
