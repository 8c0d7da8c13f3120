-- `fill` meets its contract: after i turns the first i places are filled. Assumes nothing.
use mathlib.Core.Path.{◌≡◌, refl, subst}
use Prim.Native.Nat.{ℕ, ◌≤◌, ◌-◌}
use native.Mathlib.Omega.{arith}
use borrow.Author.Rules.{rules}
use Rattle.ask_columns.specs.Filled.{ColumnFilled}
use Rattle.ask_columns.proofs.FillLaws.{filled_start, filled_next}
use Rattle.ask_columns.proofs.lists.fill.Given as goal

abbrev pub invariant-loop-i : goal.invariant-loop-i
invariant-loop-i l = (l.i ≤ l.s.pieces) × ColumnFilled l.cells l.s.pieces l.f l.more l.i l.initial.out l.out
