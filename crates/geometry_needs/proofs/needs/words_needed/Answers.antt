-- `words_needed` meets its contract: within the limits no sum wraps. Assumes nothing.
use native.Mathlib.Omega.{arith}
use Rattle.model.specs.Memory.{words_needed}
use Rattle.geometry_needs.proofs.NeedLaws.{held_most}
use borrow.Author.Rules.{rules}
use Rattle.geometry_needs.proofs.needs.words_needed.Goals as goal

pub overflow_mul-result-2 : goal.overflow_mul-result-2
overflow_mul-result-2 c = omega (arith, held_most _ _ c.requires c.partials_needed.ensures)

pub overflow_add-result-2 : goal.overflow_add-result-2
overflow_add-result-2 c = omega (arith, held_most _ _ c.requires c.partials_needed.ensures)

pub returns : goal.returns
unfolding words_needed
returns c = rw c.partials_needed.ensures
