-- `lower_all` meets its contract. In the loop the first i counts are lowered. Assumes nothing.
use Prim.Native.Nat.{◌-◌, ◌≤◌}
use Rattle.change_seeds.proofs.PassLaws.{Passed}
use Rattle.change_seeds.proofs.lowering.lower_all.Given as goal

abbrev pub invariant-loop-i : goal.invariant-loop-i
invariant-loop-i l = (l.i ≤ l.n) × Passed (λ n. n - 1) l.i l.initial.cells l.cells
