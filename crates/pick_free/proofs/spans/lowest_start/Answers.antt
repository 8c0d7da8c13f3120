-- `lowest_start` meets its contract. Assumes nothing.
use mathlib.Core.Path.{refl, ◌∙◌}
use borrow.Author.Rules.{rules}
use native.Mathlib.Nat.{mod-le}
use native.Mathlib.Omega.{arith}
use Rattle.pick_free.proofs.spans.lowest_start.Goals as goal

pub overflow_sub-result : goal.overflow_sub-result
overflow_sub-result c = omega (arith, mod-le c.args.i c.args.n)

pub returns-then-aligned : goal.returns-then-aligned
returns-then-aligned c = (rw c.if-aligned.true refl, omega arith)

pub returns : goal.returns
returns c = (c.saturating_sub.ensures ∙ rw c.if-aligned.false refl, omega (arith, c.saturating_sub.ensures))
