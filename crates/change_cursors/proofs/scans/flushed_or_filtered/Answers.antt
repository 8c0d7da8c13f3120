-- `flushed_or_filtered` meets its contract. Assumes nothing.
use mathlib.Core.Path.{ap₂}
use mathlib.Core.Bool.{Bool, ◌||◌}
use Prim.Native.Nat.{ℕ}
use lib.Dec.{eqb}
use Rattle.model.specs.change.Changes.{flushed_or_filtered}
use Rattle.change_cursors.proofs.scans.flushed_or_filtered.Goals as goal

pub returns : goal.returns
unfolding flushed_or_filtered
returns c = record {
  is = λ records words q.
      ap₂ (λ (a : Bool) (v : ℕ). a || eqb v 0) (c.flushed.ensures.is records words q)
      (c.priority.ensures.is records words q);
}
