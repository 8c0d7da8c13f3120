-- The cursors after a new priority. Assumes nothing.
use Rattle.std.specs.Prelude.{ℕ, Bool, not, ◌&&◌}
use Rattle.model.specs.Lists.{when}
use Rattle.model.specs.State.{piece_at}
use Rattle.model.specs.list.Order.{Drawing, no_draw}
use Rattle.model.specs.change.Changes.{cursors_on_filter}

-- the cursors, where the priority turns from or to 0 and the piece is not flushed
unfoldable pub cursors_turned : (i priority : ℕ) (turned : Bool) (w : Drawing) → Drawing
cursors_turned i priority turned w = when (turned && not (piece_at w.picker i).flushed) (no_draw (cursors_on_filter i priority)) w
