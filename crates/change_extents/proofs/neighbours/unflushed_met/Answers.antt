-- `unflushed_met` meets its contract. Assumes nothing.
use mathlib.Core.Path.{ap}
use mathlib.Core.Bool.{Bool, not, ◌&&◌, ◌||◌}
use lib.Dec.{eqb}
use Rattle.change_extents.specs.Neighbours.{unflushed_other}
use borrow.Author.Rules.{rules}
use Rattle.change_extents.proofs.neighbours.unflushed_met.Goals as goal

pub returns : goal.returns
unfolding unflushed_other
returns c = record {
  is = λ records words q.
      ap (λ (x : Bool). c.args.met || (not (eqb c.args.k c.args.i) && not x)) (c.flushed.ensures.is records words q);
}
