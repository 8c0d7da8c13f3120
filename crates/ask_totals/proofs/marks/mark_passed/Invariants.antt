-- `mark_passed` meets its contract: after k turns the first k rows are marked. Assumes nothing.
use borrow.Author.Rules.{rules}
use mathlib.Core.Path.{◌≡◌, subst}
use Prim.Native.Nat.{ℕ, ◌≤◌, ◌-◌}
use native.Mathlib.Omega.{arith}
use Rattle.ask_totals.specs.Marks.{Marked}
use Rattle.ask_totals.proofs.MarkLaws.{marked_start, marked_next}
use Rattle.ask_totals.proofs.marks.mark_passed.Given as goal

abbrev pub invariant-loop-k : goal.invariant-loop-k
invariant-loop-k l = (l.k ≤ l.live) × Marked l.rows l.k l.marks
