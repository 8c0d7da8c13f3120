-- `extent_size` meets its contract. Assumes nothing.
use mathlib.Core.Path.{refl}
use native.Mathlib.Omega.{arith}
use Rattle.model.specs.State.{extent_size}
use Rattle.geometry_needs.proofs.ExtentLaws.{size_none}
use Rattle.geometry_needs.proofs.extents.extent_size.Goals as goal

pub returns-then-b-eq0 : goal.returns-then-b-eq0
returns-then-b-eq0 c = size_none _ c.if-b-eq0.true

pub returns : goal.returns
unfolding extent_size
returns c = refl
