-- `drawn` meets its contract. Assumes nothing.
use mathlib.Core.Path.{refl}
use borrow.Author.Rules.{rules}
use Rattle.pick_random.specs.Rings.{drawn}
use Rattle.pick_random.proofs.ring.drawn.Goals as goal

pub returns : goal.returns
unfolding drawn
returns c = refl
