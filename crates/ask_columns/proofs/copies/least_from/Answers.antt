-- `least_from` meets its contract: after k turns it holds for the first k pieces of the stretch. Assumes nothing.
use mathlib.Core.Path.{◌≡◌, refl, ap, ◌∙◌}
use Prim.Native.Nat.{ℕ, ◌-◌, ◌≤◌}
use native.Mathlib.Omega.{arith}
use borrow.Author.Rules.{rules}
use Rattle.model.specs.Lists.{count}
use Rattle.memory_layout.specs.Tables.{tabulate}
use Rattle.ask_columns.specs.Copies.{least_of, copies_from}
use Rattle.ask_columns.proofs.LeastLaws.{least_next}
use Rattle.ask_columns.proofs.copies.least_from.Goals as goal

pub loop-k-init : goal.loop-k-init
unfolding copies_from tabulate least_of count
loop-k-init c = (omega arith, refl)

pub loop-k-preserved : goal.loop-k-preserved
loop-k-preserved c = (omega (arith, c.loop-k-test), c.lesser-lowest.ensures ∙ least_next _ _ _ _ c.loop-k.k _ _ c.loop-k.invariant.1 c.copies_at.ensures)
