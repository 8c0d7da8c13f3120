use mathlib.Core.Path.{refl}
use borrow.Author.Rules.{rules}
use Rattle.pick_state.proofs.numbers.contiguous_over.Goals as goal

pub returns : goal.returns
returns c = rw c.contiguous_above-above.ensures refl
