use Rattle.pick_state.specs.PickStates.{with_given}
use mathlib.Core.Path.{refl}
use borrow.Author.Rules.{rules}
use Rattle.pick_state.proofs.numbers.shorter.Goals as goal

pub returns : goal.returns
unfolding with_given
returns c = refl
