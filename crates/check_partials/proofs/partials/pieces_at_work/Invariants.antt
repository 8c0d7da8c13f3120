-- `pieces_at_work` meets its contract: after i pieces the number is that of the first i. Assumes nothing.
use Prim.Native.Nat.{◌≤◌, ◌-◌}
use native.Mathlib.Omega.{arith}
use Rattle.check_partials.proofs.GoodLaws.{Working, working_start, working_next, working_end}
use borrow.Author.Rules.{rules}
use Rattle.check_partials.proofs.partials.pieces_at_work.Given as goal

abbrev pub invariant-loop-i : goal.invariant-loop-i
invariant-loop-i l = (l.i ≤ l.fn.s.pieces) × Working l.states l.many l.i
