-- `worth_among` meets its contract. Assumes nothing.
use Prim.Native.Nat.{◌-◌}
use native.Mathlib.Omega.{arith}
use Rattle.change_extents.proofs.NeighbourLaws.{Weighed, weigh_begins, weigh_ends, weigh_stops, weigh_passes}
use borrow.Author.Rules.{rules}
use Rattle.change_extents.proofs.neighbours.worth_among.Given as goal

abbrev pub invariant-loop-k : goal.invariant-loop-k
invariant-loop-k l = Weighed l.s l.cells l.i l.begin l.end l.met l.k
