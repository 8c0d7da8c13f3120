-- `start_pick` meets its contract. Assumes nothing.
use mathlib.Core.Path.{ap, ◌∙◌}
use borrow.Author.Rules.{rules}
use Rattle.model.specs.Options.{partial_ratio}
use Rattle.pick_state.specs.declared.numbers.PickNumbers.{PickNumbers}
use Rattle.pick_start.specs.Starting.{first_numbers, flagged_where, start_numbers}
use Rattle.pick_start.proofs.start.start_pick.Goals as goal

pub returns : goal.returns
unfolding start_numbers flagged_where first_numbers
returns c = c.flagged_where.ensures ∙ ap (λ (t : PickNumbers). flagged_where c.args.forced partial_ratio t) c.flagged_where-u.ensures
