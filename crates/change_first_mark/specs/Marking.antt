-- The first block of a piece that is opened, marked. Assumes nothing.
use Rattle.std.specs.Prelude.{ℕ, ◌<◌, ◌≡◌, List}
use Rattle.std.proofs.Math.Option.{some}
use Rattle.model.specs.list.Order.{Draws, drawing}
use Rattle.model.specs.change.Partials.{partial_of}
use Rattle.model.specs.change.Changes.{mark_first}
use Rattle.memory_records.specs.declared.record.DownloadingPiece.{DownloadingPiece as Record}
use Rattle.memory_layout.specs.declared.shape.Shape.{Shape}
use Rattle.memory_layout.specs.Decode.{blocks_of, decode}
use Rattle.memory_blocks.specs.declared.info.BlockInfo.{BlockInfo}
use Rattle.memory_blocks.specs.Blocks.{block_of}
use Rattle.change_steps.specs.Working.{Works, Went}
use Rattle.change_state.specs.declared.states.Tally.{Tally}
use Rattle.change_adding.specs.declared.adding.Opening.{Opening}
use Rattle.change_adding.specs.Adding.{Held}
use Rattle.change_first_mark.specs.declared.marks.Marked.{Marked}

-- with some records beside these words and cells the partial of piece i stands, and the piece has a block j
pub record HeldBeside (s : Shape) (i p : ℕ) (t : Tally) (j : ℕ) (words cells : List ℕ) : Type 0 where
  pub records : List Record
  pub works : Works s records words cells
  pub held : Held i p t records words cells
  pub block : j < blocks_of words i

-- the definition's `mark_first` in the partial of piece i, with whichever records stand beside, which stay
pub record FirstMarked (s : Shape) (draws : Draws) (i : ℕ) (o : Opening) (j : ℕ) (x : BlockInfo) (words cells words' cells' : List ℕ)
    (r : Marked) : Type 0 where
  pub partial : r.partial ≡ o.partial
  pub answer : (records : List Record) → Works s records words cells → Held i o.partial.info_idx o.tally records words cells
      → (mark_first draws i (partial_of (decode records words cells) i) j (block_of x) (drawing o.used (decode records words cells))).answer
      ≡ some r.answer
  pub went : (records : List Record) → Works s records words cells → Held i o.partial.info_idx o.tally records words cells
      → Went s (λ w. (mark_first draws i (partial_of w.picker i) j (block_of x) w).after) records words cells o.used records words' cells'
      r.used
