-- `counted` meets its contract. Assumes nothing.
use mathlib.Core.Path.{sym, ap}
use mathlib.Core.Bool.{Bool}
use Prim.Native.Nat.{◌+◌}
use borrow.Author.Tests.{eq-eqb, ne_eqb}
use native.Mathlib.Omega.{arith}
use Rattle.model.specs.Lists.{bit}
use borrow.Author.Rules.{rules}
use Rattle.pick_start.proofs.forced.counted.Goals as goal

pub returns-then-queue-eq0 : goal.returns-then-queue-eq0
returns-then-queue-eq0 c = sym (ap (λ (b : Bool). c.args.n + bit b) (eq-eqb c.args.queue 0 c.if-queue-eq0.true))

pub returns-else-queue-eq0 : goal.returns-else-queue-eq0
returns-else-queue-eq0 c = omega (arith, ap (λ (b : Bool). c.args.n + bit b) (ne_eqb c.args.queue 0 c.if-queue-eq0.false))
