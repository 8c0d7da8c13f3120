-- `seen_now` meets its contract. Assumes nothing.
use Rattle.pick_walk.specs.Walks.{marked, trace_now}
use mathlib.Core.Path.{refl}
use Rattle.pick_walk.proofs.walk.seen_now.Goals as goal

pub returns-then-x : goal.returns-then-x
unfolding marked trace_now
returns-then-x c = rw c.if-x.true refl

pub returns : goal.returns
unfolding marked trace_now
returns c = rw c.if-x.false refl
