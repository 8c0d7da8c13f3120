-- `check_pieces::among` meets its contract. The loop's invariant: the extents that are left decide.
use Prim.Native.Nat.{◌-◌}
use native.Mathlib.Omega.{arith}
use Rattle.check_pieces.proofs.ExtentTests.{Sought, sought_start, sought_found, sought_next, sought_end}
use borrow.Author.Rules.{rules}
use Rattle.check_pieces.proofs.extents.among.Given as goal

abbrev pub invariant-loop-j : goal.invariant-loop-j
invariant-loop-j l = Sought l.words l.k l.e l.j
