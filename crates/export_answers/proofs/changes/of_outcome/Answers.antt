-- `of_outcome` meets its contract. Assumes nothing.
use mathlib.Core.Path.{ap, sym, ◌∙◌}
use Rattle.export_answers.proofs.RefusalLaws.{both}
use Rattle.export_answers.specs.Changes.{change_refused, of_outcome}
use Rattle.export_answers.proofs.changes.of_outcome.Goals as goal

pub returns-in-Err : goal.returns-in-Err
returns-in-Err c = both change_refused c.number.ensures c.place.ensures ∙ ap of_outcome (sym c.in-Err.is)
