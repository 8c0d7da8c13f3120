-- `first_unmarked` meets its contract: what the search over all gives is what it gives from p on. Assumes nothing.
use Prim.Native.Nat.{◌-◌, ◌≤◌}
use mathlib.Core.Path.{◌≡◌}
use Rattle.memory_places.specs.Places.{unmarked_from}
use Rattle.memory_places.proofs.places.first_unmarked.Given as goal

abbrev pub invariant-loop-p : goal.invariant-loop-p
invariant-loop-p l = (l.p ≤ l.places)
    × (unmarked_from l.marks (l.places - l.p) l.p ≡ unmarked_from l.marks l.places 0)
