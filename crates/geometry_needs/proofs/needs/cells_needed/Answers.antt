-- `cells_needed` meets its contract: within the limits no sum wraps. Assumes nothing.
use native.Mathlib.Omega.{arith}
use Rattle.model.specs.Memory.{cells_needed}
use Rattle.geometry_needs.proofs.NeedLaws.{held_most}
use borrow.Author.Rules.{rules}
use Rattle.geometry_needs.proofs.needs.cells_needed.Goals as goal

pub overflow_mul-result-2 : goal.overflow_mul-result-2
overflow_mul-result-2 c = omega (arith, held_most _ _ c.requires c.partials_needed.ensures)

pub overflow_mul-result-3 : goal.overflow_mul-result-3
overflow_mul-result-3 c = omega (arith, held_most _ _ c.requires c.partials_needed.ensures)

pub overflow_add-result : goal.overflow_add-result
overflow_add-result c = omega (arith, held_most _ _ c.requires c.partials_needed.ensures)

pub returns : goal.returns
unfolding cells_needed
returns c = rw c.partials_needed.ensures
