-- `marked_now` meets its contract. Assumes nothing.
use mathlib.Core.Path.{refl}
use native.Mathlib.Omega.{arith}
use borrow.Author.Rules.{rules}
use Rattle.pick_lap.proofs.visits.marked_now.Goals as goal

pub returns-then-ignored : goal.returns-then-ignored
returns-then-ignored c = rw c.if-ignored.true refl

pub returns : goal.returns
returns c = rw c.if-ignored.false (omega arith)
