-- `all_flushed` meets its contract: what is left of the range is the whole of it. Assumes nothing.
use Prim.Native.Nat.{◌-◌}
use native.Mathlib.Omega.{arith}
use borrow.Author.Rules.{rules}
use Rattle.pick_extents.proofs.ExtentLaws.{FlushedLeft, flushed_start, flushed_next, flushed_stop, flushed-end}
use Rattle.pick_extents.proofs.all_flushed.Given as goal

abbrev pub invariant-loop-i : goal.invariant-loop-i
invariant-loop-i l = FlushedLeft l.s l.cells l.first l.i l.end
