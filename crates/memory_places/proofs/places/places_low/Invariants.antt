-- `places_low` meets its contract: the places of the first k rows are added up. Assumes nothing.
use Prim.Native.Nat.{◌*◌, ◌≤◌}
use mathlib.Core.Path.{◌≡◌}
use Rattle.memory_places.specs.Places.{places_sum}
use Rattle.memory_places.proofs.places.places_low.Given as goal

abbrev pub invariant-loop-k : goal.invariant-loop-k
invariant-loop-k l = (l.k ≤ l.live) × (l.sum ≡ places_sum l.k l.rows) × (l.sum ≤ 512 * l.k)
