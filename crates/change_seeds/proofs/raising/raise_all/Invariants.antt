-- `raise_all` meets its contract. In the loop the first i counts are raised. Assumes nothing.
use Prim.Native.Nat.{suc, ◌≤◌}
use Rattle.change_seeds.proofs.PassLaws.{Passed}
use Rattle.change_seeds.proofs.raising.raise_all.Given as goal

abbrev pub invariant-loop-i : goal.invariant-loop-i
invariant-loop-i l = (l.i ≤ l.n) × Passed suc l.i l.initial.cells l.cells
