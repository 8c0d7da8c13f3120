-- `find_last_clear` meets its contract. The invariant: the search below i gives the answer. Assumes nothing.
use mathlib.Core.Path.{◌≡◌}
use Prim.Native.Nat.{◌≤◌}
use Rattle.bitfield.specs.Bitfield.{last_clear}
use Rattle.bitfield.proofs.find_last_clear.Given as goal

abbrev pub invariant-loop-i : goal.invariant-loop-i
invariant-loop-i l = (last_clear l.bytes l.i ≡ last_clear l.bytes l.bits) × (l.i ≤ l.bits)
