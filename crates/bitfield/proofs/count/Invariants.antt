-- `count` meets its contract. The invariant: n is the count of the bits below i. Assumes nothing.
use mathlib.Core.Path.{◌≡◌}
use Prim.Native.Nat.{◌≤◌}
use Rattle.bitfield.specs.Bitfield.{count_bits}
use Rattle.bitfield.proofs.count.Given as goal

abbrev pub invariant-loop-i : goal.invariant-loop-i
invariant-loop-i l = (l.n ≡ count_bits l.bytes l.i) × (l.n ≤ l.i) × (l.i ≤ l.stop)
