-- `pass_fours` meets its contract. The invariant: the word does not stand before k. Assumes nothing.
use Prim.Native.Nat.{◌-◌}
use native.Mathlib.Omega.{arith}
use Rattle.list_places.proofs.Seeking.{Seeks, seeks_fours}
use Rattle.list_places.proofs.pass_fours.Given as goal

abbrev pub invariant-loop-k : goal.invariant-loop-k
invariant-loop-k l = Seeks l.w l.end l.list l.k

abbrev pub decreases-loop-k : goal.decreases-loop-k
decreases-loop-k l = l.end - l.k
