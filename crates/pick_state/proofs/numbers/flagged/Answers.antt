use Rattle.pick_state.specs.PickStates.{with_flags}
use mathlib.Core.Path.{refl}
use Rattle.pick_state.proofs.numbers.flagged.Goals as goal

pub returns : goal.returns
unfolding with_flags
returns c = refl
