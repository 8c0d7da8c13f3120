-- `least_from` meets its contract: after k turns it holds for the first k pieces of the stretch. Assumes nothing.
use mathlib.Core.Path.{◌≡◌, refl, ap, ◌∙◌}
use Prim.Native.Nat.{ℕ, ◌-◌, ◌≤◌}
use native.Mathlib.Omega.{arith}
use borrow.Author.Rules.{rules}
use Rattle.model.specs.Lists.{count}
use Rattle.memory_layout.specs.Tables.{tabulate}
use Rattle.ask_columns.specs.Copies.{least_of, copies_from}
use Rattle.ask_columns.proofs.LeastLaws.{least_next}
use Rattle.ask_columns.proofs.copies.least_from.Given as goal

abbrev pub invariant-loop-k : goal.invariant-loop-k
invariant-loop-k l = (l.k ≤ l.many) × (l.lowest ≡ least_of l.start (copies_from l.cells l.s.pieces l.i l.k))
