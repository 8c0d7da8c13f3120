-- `begun` meets its contract. Assumes nothing.
use mathlib.Core.Path.{refl}
use Rattle.pick_random.specs.Rings.{begun}
use Rattle.pick_random.proofs.ring.begun.Goals as goal

pub returns : goal.returns
unfolding begun
returns c = refl
