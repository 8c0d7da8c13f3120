-- A piece turned reverse, by the number of its partial's requested blocks. Assumes nothing.
use Rattle.std.specs.Prelude.{ℕ, ◌≡◌, Bool, List}
use Rattle.types.specs.declared.block.BlockState.TheVariants.{Requested}
use Rattle.model.specs.State.{DownloadingPiece}
use Rattle.model.specs.list.Order.{Draws}
use Rattle.model.specs.change.Partials.{blocks_in_state}
use Rattle.model.specs.change.Changes.{make_piece_reverse}
use Rattle.memory_records.specs.declared.record.DownloadingPiece.{DownloadingPiece as Record}
use Rattle.memory_layout.specs.declared.shape.Shape.{Shape}
use Rattle.change_steps.specs.Working.{Works, Went}

-- with whichever records stand beside, of a partial that has so many requested blocks
pub record MadeReverse (s : Shape) (draws : Draws) (i : ℕ) (back : Bool) (requested : ℕ) (words cells : List ℕ) (used : ℕ)
    (words' cells' : List ℕ) (next : ℕ) : Type 0 where
  pub went : (records : List Record) → Works s records words cells → (d : DownloadingPiece) → requested ≡ blocks_in_state Requested d
      → Went s (make_piece_reverse draws i back d) records words cells used records words' cells' next
