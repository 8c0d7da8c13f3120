-- `stretch_marked` meets its contract: the first k places of the stretch are joined. Assumes nothing.
use Prim.Native.Nat.{◌≤◌}
use mathlib.Core.Path.{◌≡◌}
use Rattle.memory_places.specs.Places.{marked_through}
use Rattle.memory_places.proofs.places.stretch_marked.Given as goal

abbrev pub invariant-loop-k : goal.invariant-loop-k
invariant-loop-k l = (l.k ≤ 32) × (l.all ≡ marked_through l.marks l.k l.p)
