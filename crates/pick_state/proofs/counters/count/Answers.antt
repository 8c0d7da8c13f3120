use Rattle.model.specs.Lists.{nth, set_nth}
use native.Mathlib.Omega.{arith}
use mathlib.Core.Path.{refl}
use borrow.Author.Rules.{rules}
use Rattle.pick_state.proofs.counters.count.Goals as goal

pub overflow_add-loops : goal.overflow_add-loops
unfolding nth
overflow_add-loops c = omega (arith, c.requires.1)

pub returns : goal.returns
unfolding set_nth nth
returns c = refl
