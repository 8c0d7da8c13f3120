-- `image_length` meets its contract: within the limits no sum wraps. Assumes nothing.
use mathlib.Core.Path.{refl}
use native.Mathlib.Omega.{arith}
use Rattle.geometry_needs.specs.Needs.{image_length}
use Rattle.geometry_needs.proofs.needs.image_length.Goals as goal

pub returns : goal.returns
unfolding image_length
returns c = refl
