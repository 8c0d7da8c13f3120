-- `is_recent` meets its contract. Assumes nothing.
use Prim.Native.Nat.{◌-◌}
use native.Mathlib.Omega.{arith}
use Rattle.change_extents.proofs.RecordLaws.{Sought, seek_begins, seek_found, seek_passes, seek_ends}
use borrow.Author.Rules.{rules}
use Rattle.change_extents.proofs.extents.is_recent.Given as goal

abbrev pub invariant-loop-k : goal.invariant-loop-k
invariant-loop-k l = Sought l.words l.e l.k
