-- `part_length` meets its contract: there is a part k, so it starts before the end. Assumes nothing.
use native.Mathlib.Omega.{arith}
use Rattle.model.specs.Bep3.{part_length}
use Rattle.geometry.proofs.PartLaws.{part_starts}
use Rattle.geometry.proofs.parts.part_length.Goals as goal

pub overflow_mul-k : goal.overflow_mul-k
overflow_mul-k c = omega (arith, part_starts _ _ _ c.requires)

pub overflow_sub-whole : goal.overflow_sub-whole
overflow_sub-whole c = omega (arith, part_starts _ _ _ c.requires)

pub returns : goal.returns
unfolding part_length
returns c = c.min.ensures
