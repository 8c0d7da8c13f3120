use Rattle.pick_state.specs.PickStates.{contiguous_of}
use Rattle.model.specs.pick.Blocks.{contiguous_above}
use mathlib.Core.Path.{refl}
use borrow.Author.Rules.{rules}
use Rattle.pick_state.proofs.numbers.contiguous_above.Goals as goal

pub returns : goal.returns
unfolding contiguous_above contiguous_of
returns c = refl
