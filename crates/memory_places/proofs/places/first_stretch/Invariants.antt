-- `first_stretch` meets its contract: the search over all gives what it gives behind k stretches. Assumes nothing.
use Prim.Native.Nat.{◌-◌, ◌*◌, ◌≤◌}
use mathlib.Core.Path.{◌≡◌}
use Rattle.memory_places.specs.Places.{unmarked_from}
use Rattle.memory_places.proofs.places.first_stretch.Given as goal

abbrev pub invariant-loop-k : goal.invariant-loop-k
invariant-loop-k l = (32 * l.k ≤ l.fn.places)
    × (unmarked_from l.marks (l.fn.places - 32 * l.k) (32 * l.k) ≡ unmarked_from l.marks l.fn.places 0)
