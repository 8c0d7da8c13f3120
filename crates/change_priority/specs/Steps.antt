-- The steps of a new priority, and the numbers of a partial that its last one looks at. Assumes nothing.
use Rattle.std.specs.Prelude.{ℕ, ◌≡◌, Bool, List}
use Rattle.std.proofs.Math.Option.{some}
use Rattle.model.specs.Lists.{unless}
use Rattle.model.specs.State.{DownloadingPiece, is_open, piece_at, with_piece, with_priority}
use Rattle.model.specs.list.Order.{Draws, Drawing, change_and_update}
use Rattle.model.specs.change.Partials.{partial_of, update_piece_state}
use Rattle.memory_layout.specs.declared.shape.Shape.{Shape}
use Rattle.change_tally.specs.RowsStanding.{RowsStand}
use Rattle.check_partials.specs.Records.{CountsHeld}
use Rattle.memory_rows.specs.Lookup.{LiveRows, picker_in}
use Rattle.change_state.specs.declared.states.Tally.{Tally}
use Rattle.change_state.specs.Numbers.{IsTally}
use Rattle.change_filter.specs.Turning.{cursors_turned}

-- the cursors, then the priority and the list
unfoldable pub priority_listed : (draws : Draws) (i priority : ℕ) (turned : Bool) (w : Drawing) → Drawing
priority_listed draws i priority turned w =
    change_and_update draws i (with_piece i (with_priority priority)) (cursors_turned i priority turned w)

-- then the state of a partial
unfoldable pub priority_stored : (draws : Draws) (i priority : ℕ) (turned : Bool) (w : Drawing) → Drawing
priority_stored draws i priority turned w =
    unless (is_open (piece_at w.picker i).state) (update_piece_state draws i) (priority_listed draws i priority turned w)

-- with some cells beside them, a picker stands with these rows and counts
pub record TalliesAt (s : Shape) (live : ℕ) (rows counts words : List ℕ) : Type 0 where
  pub cells : List ℕ
  pub stand : RowsStand s live rows counts words cells

-- the numbers are those of piece i's partial, if it has one
pub record TalliedAt (s : Shape) (live : ℕ) (rows counts words : List ℕ) (i : ℕ) (t : Tally) : Type 0 where
  pub is : (cells : List ℕ) → LiveRows s live rows words cells → CountsHeld (picker_in live rows words cells) live counts
      → (d : DownloadingPiece) → partial_of (picker_in live rows words cells) i ≡ some d → IsTally t d
