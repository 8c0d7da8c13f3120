-- `ended` meets its contract. Assumes nothing.
use Rattle.pick_walk.specs.Walks.{ended}
use mathlib.Core.Path.{refl}
use Rattle.pick_walk.proofs.walk.ended.Goals as goal

pub returns : goal.returns
unfolding ended
returns c = refl
