-- `by_rarity` meets its contract. Assumes nothing.
use mathlib.Core.Bool.{Bool, not, ◌&&◌}
use mathlib.Core.Path.{ap₂}
use borrow.Author.Rules.{rules}
use Rattle.pick_partials.proofs.phase.by_rarity.Goals as goal

pub returns : goal.returns
returns c = ap₂ (λ (x y : Bool). x && not y) c.contains-rarest.ensures c.contains-parole.ensures
