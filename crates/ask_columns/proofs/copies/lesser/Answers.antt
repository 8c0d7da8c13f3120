-- `lesser` meets its contract. Assumes nothing.
use mathlib.Core.Path.{◌∙◌}
use Rattle.ask_columns.proofs.LeastLaws.{least_min}
use Rattle.ask_columns.proofs.copies.lesser.Goals as goal

pub returns : goal.returns
returns c = c.min.ensures ∙ least_min _ _
