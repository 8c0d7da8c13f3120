-- `marked` meets its contract. Assumes nothing.
use Rattle.pick_walk.specs.Walks.{marked}
use mathlib.Core.Path.{refl}
use borrow.Author.Rules.{rules}
use Rattle.pick_walk.proofs.walk.marked.Goals as goal

pub returns : goal.returns
unfolding marked
returns c = rw c.seen_now-seen.ensures refl
