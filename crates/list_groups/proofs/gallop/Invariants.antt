-- `gallop` meets its contract. The invariant: before `low` stand words up to `top`. Assumes nothing.
use borrow.Author.Rules.{rules}
use Prim.Native.Nat.{◌-◌}
use Rattle.list_groups.proofs.Searching.{Gallops, gallops_start, gallops_next, gallops_stop}
use Rattle.list_groups.proofs.gallop.Given as goal

abbrev pub invariant-loop-step : goal.invariant-loop-step
invariant-loop-step l = Gallops l.top l.from l.end l.list l.low l.step

abbrev pub decreases-loop-step : goal.decreases-loop-step
decreases-loop-step l = l.end - l.low
