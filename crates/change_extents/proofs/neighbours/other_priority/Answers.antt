-- `other_priority` meets its contract. Assumes nothing.
use mathlib.Core.Path.{ap₂}
use mathlib.Core.Bool.{not, ◌&&◌}
use Prim.Native.Nat.{ℕ}
use lib.Dec.{eqb}
use Rattle.change_extents.specs.Neighbours.{other_priority}
use borrow.Author.Rules.{rules}
use Rattle.change_extents.proofs.neighbours.other_priority.Goals as goal

pub returns : goal.returns
unfolding other_priority
returns c = record {
  is = λ records words q.
      ap₂ (λ (x y : ℕ). not (eqb c.args.k c.args.i) && not (eqb x y)) (c.priority.ensures.is records words q)
      (c.priority-2.ensures.is records words q);
}
