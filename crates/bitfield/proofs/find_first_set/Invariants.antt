-- `find_first_set` meets its contract. The invariant: what is left of the search from i on gives the answer. Assumes nothing.
use mathlib.Core.Path.{◌≡◌}
use Prim.Native.Nat.{◌-◌, ◌≤◌}
use Rattle.bitfield.specs.Bitfield.{first_from, first_set}
use Rattle.bitfield.proofs.find_first_set.Given as goal

abbrev pub invariant-loop-i : goal.invariant-loop-i
invariant-loop-i l = (first_from l.bytes l.i (l.bits - l.i) ≡ first_set l.bytes l.bits) × (l.i ≤ l.end)
