-- `worth_among` meets its contract. Assumes nothing.
use Prim.Native.Nat.{◌-◌}
use native.Mathlib.Omega.{arith}
use Rattle.change_extents.proofs.NeighbourLaws.{Weighed, weigh_begins, weigh_ends, weigh_stops, weigh_passes}
use borrow.Author.Rules.{rules}
use Rattle.change_extents.proofs.neighbours.worth_among.Goals as goal

pub loop-k-init : goal.loop-k-init
loop-k-init c = weigh_begins _ _ _ _ _

pub returns-then-other_priority : goal.returns-then-other_priority
returns-then-other_priority c = weigh_stops _ _ _ _ _ c.loop-k.met c.loop-k.k c.loop-k.invariant (omega arith) c.other_priority.result c.other_priority.ensures c.if-other_priority.true

pub loop-k-preserved : goal.loop-k-preserved
loop-k-preserved c = weigh_passes _ _ _ _ _ c.loop-k.met c.loop-k.k c.loop-k.invariant (omega arith) c.other_priority.result c.other_priority.ensures c.if-other_priority.false _
    c.unflushed_met-met.ensures

pub returns : goal.returns
returns c = weigh_ends _ _ _ _ _ c.loop-k.met c.loop-k.k c.loop-k.invariant (omega arith)
