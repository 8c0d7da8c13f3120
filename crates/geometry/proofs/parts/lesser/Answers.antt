-- `lesser` meets its contract. Assumes nothing.
use mathlib.Core.Path.{◌∙◌}
use Rattle.geometry.proofs.PartLaws.{least_min}
use Rattle.geometry.proofs.parts.lesser.Goals as goal

pub returns : goal.returns
returns c = c.min.ensures ∙ least_min _ _
