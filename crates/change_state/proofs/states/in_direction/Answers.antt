-- `in_direction` meets its contract. Assumes nothing.
use mathlib.Core.Path.{sym, ◌∙◌}
use Rattle.model.specs.change.Partials.{in_direction}
use Rattle.change_state.proofs.states.in_direction.Goals as goal

pub returns-then-is_reverse : goal.returns-then-is_reverse
unfolding in_direction
returns-then-is_reverse c = rw (sym c.is_reverse.ensures ∙ c.if-is_reverse.true) c.make_reverse.ensures

pub returns : goal.returns
unfolding in_direction
returns c = rw (sym c.is_reverse.ensures ∙ c.if-is_reverse.false)
