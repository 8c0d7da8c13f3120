-- `any_between` meets its contract. In the loop what is found and what is left decide. Assumes nothing.
use mathlib.Core.Path.{refl}
use native.Mathlib.Omega.{arith}
use Rattle.picker_seeds.proofs.SeedLaws.{finding_next, finding_end}
use Rattle.picker_seeds.proofs.seeds.any_between.Goals as goal

pub loop-count-preserved : goal.loop-count-preserved
loop-count-preserved c = finding_next _ _ _ _ _ c.loop-count.invariant (omega arith) _ refl _ refl

pub returns : goal.returns
returns c = finding_end _ _ _ _ _ c.loop-count.invariant (omega arith)
