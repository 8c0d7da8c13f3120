-- `mark_places` meets its contract: the places of the first k rows are marked. Assumes nothing.
use Prim.Native.Nat.{◌≤◌}
use Rattle.memory_places.specs.Places.{places_taken, Marked}
use Rattle.memory_places.proofs.places.mark_places.Given as goal

abbrev pub invariant-loop-k : goal.invariant-loop-k
invariant-loop-k l = (l.k ≤ l.live) × Marked (places_taken l.k l.rows) l.marks
