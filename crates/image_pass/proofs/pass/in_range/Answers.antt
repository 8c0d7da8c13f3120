-- `in_range` meets its contract. Assumes nothing.
use mathlib.Core.Path.{refl}
use Rattle.image_pass.specs.Blocks.{in_range}
use Rattle.image_pass.proofs.pass.in_range.Goals as goal

pub returns : goal.returns
unfolding in_range
returns c = refl
