-- `moved` meets its contract. Assumes nothing.
use Rattle.pick_walk.specs.Walks.{moved}
use mathlib.Core.Path.{refl}
use Rattle.pick_walk.proofs.walk.moved.Goals as goal

pub returns : goal.returns
unfolding moved
returns c = refl
