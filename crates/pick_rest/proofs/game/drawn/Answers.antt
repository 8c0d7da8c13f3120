-- `drawn` meets its contract. Assumes nothing.
use Rattle.pick_rest.specs.Game.{with_used}
use mathlib.Core.Path.{refl}
use borrow.Author.Rules.{rules}
use Rattle.pick_rest.proofs.game.drawn.Goals as goal

pub returns : goal.returns
unfolding with_used
returns c = refl
