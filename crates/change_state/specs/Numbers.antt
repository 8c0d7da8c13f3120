-- The state that `update_piece_state` gives, by the numbers of a partial's blocks. Assumes nothing.
use Rattle.std.specs.Prelude.{ℕ, ◌+◌, ◌≡◌, cond, List, eqb, ltb}
use Rattle.std.proofs.Math.Option.{some}
use Rattle.types.specs.declared.queue.DownloadQueue.{DownloadQueue}
use Rattle.types.specs.declared.queue.DownloadQueue.TheVariants.{Downloading, Full, Finished, ZeroPrio, Open}
use Rattle.types.specs.declared.block.BlockState.TheVariants.{Requested}
use Rattle.model.specs.Lists.{bit, len}
use Rattle.model.specs.State.{DownloadingPiece}
use Rattle.model.specs.list.Order.{Draws}
use Rattle.model.specs.change.Partials.{partial_of, blocks_in_state, progress, in_direction, update_piece_state}
use Rattle.memory_records.specs.declared.record.DownloadingPiece.{DownloadingPiece as Record}
use Rattle.memory_layout.specs.declared.shape.Shape.{Shape}
use Rattle.memory_layout.specs.Decode.{decode}
use Rattle.change_steps.specs.Working.{Works, Went}
use Rattle.change_state.specs.declared.states.Tally.{Tally}

-- the numbers are those of the partial's blocks, and the flag is its
pub record IsTally (t : Tally) (d : DownloadingPiece) : Type 0 where
  pub blocks : t.blocks ≡ len d.blocks
  pub busy : t.busy ≡ progress d
  pub requested : t.requested ≡ blocks_in_state Requested d
  pub hashing : t.hashing ≡ d.hashing

-- `new_state` by numbers; Open means that the piece is left as it is
unfoldable pub state_by : (t : Tally) (priority : ℕ) (current : DownloadQueue) → DownloadQueue
state_by t priority current =
    cond (eqb priority 0) ZeroPrio
    (cond (eqb (t.busy + bit t.hashing) 0) Open
    (cond (ltb t.busy t.blocks) (in_direction current Downloading)
    (cond (ltb 0 t.requested) (in_direction current Full) Finished)))

-- `update_piece_state` of piece i, with whichever records stand beside, among them one of a partial of the piece that has these numbers
pub record StateUpdated (s : Shape) (draws : Draws) (i : ℕ) (t : Tally) (words cells : List ℕ) (used : ℕ) (words' cells' : List ℕ)
    (next : ℕ) : Type 0 where
  pub went : (records : List Record) → Works s records words cells → (d : DownloadingPiece)
      → partial_of (decode records words cells) i ≡ some d → IsTally t d
      → Went s (update_piece_state draws i) records words cells used records words' cells' next
