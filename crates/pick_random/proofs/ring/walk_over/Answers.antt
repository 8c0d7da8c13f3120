-- `walk_over` meets its contract. Assumes nothing.
use mathlib.Core.Path.{refl}
use Rattle.pick_random.specs.Rings.{walk_done}
use Rattle.pick_random.proofs.ring.walk_over.Goals as goal

pub returns : goal.returns
unfolding walk_done
returns c = refl
