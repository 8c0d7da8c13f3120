use Rattle.pick_state.specs.PickStates.{contiguous_of}
use Rattle.model.specs.pick.Blocks.{contiguous_is_zero}
use mathlib.Core.Path.{refl}
use Rattle.pick_state.proofs.numbers.contiguous_is_zero.Goals as goal

pub returns : goal.returns
unfolding contiguous_is_zero contiguous_of
returns c = refl
