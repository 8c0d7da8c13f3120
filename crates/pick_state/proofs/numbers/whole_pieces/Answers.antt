use mathlib.Core.Path.{refl}
use Rattle.model.specs.pick.Blocks.{whole_pieces}
use Rattle.pick_state.specs.PickStates.{contiguous_of}
use borrow.Author.Rules.{rules}
use Rattle.pick_state.proofs.numbers.whole_pieces.Goals as goal

pub returns : goal.returns
unfolding whole_pieces contiguous_of
returns c = rw c.saturating_sub-rest.ensures refl
