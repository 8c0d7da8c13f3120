-- `marked` meets its contract. Assumes nothing.
use mathlib.Core.Path.{refl}
use native.Mathlib.Omega.{arith}
use borrow.Author.Rules.{rules}
use Rattle.pick_runs.proofs.spans.marked.Goals as goal

pub returns-then-was : goal.returns-then-was
returns-then-was c = rw c.if-was.true (omega arith)

pub returns : goal.returns
returns c = rw c.if-was.false refl
