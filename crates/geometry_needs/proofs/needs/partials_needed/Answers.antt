-- `partials_needed` meets its contract. Assumes nothing.
use Rattle.model.specs.Memory.{partials_needed}
use borrow.Author.Rules.{rules}
use Rattle.geometry_needs.proofs.needs.partials_needed.Goals as goal

pub returns : goal.returns
unfolding partials_needed
returns c = c.lesser.ensures
