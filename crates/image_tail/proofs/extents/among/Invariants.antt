-- `among` meets its contract. The loop's invariant: the extents that are left decide.
use Prim.Native.Nat.{◌-◌}
use native.Mathlib.Omega.{arith}
use Rattle.image_tail.proofs.ExtentLaws.{Sought, sought_start, sought_found, sought_next, sought_end}
use borrow.Author.Rules.{rules}
use Rattle.image_tail.proofs.extents.among.Given as goal

abbrev pub invariant-loop-j : goal.invariant-loop-j
invariant-loop-j l = Sought l.start l.k l.bytes l.e l.j
