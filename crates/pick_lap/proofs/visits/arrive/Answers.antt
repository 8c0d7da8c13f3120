-- `arrive` meets its contract. Assumes nothing.
use Rattle.pick_lap.specs.Visits.{arrived}
use mathlib.Core.Path.{refl}
use Rattle.pick_lap.proofs.visits.arrive.Goals as goal

pub returns : goal.returns
unfolding arrived
returns c = refl
