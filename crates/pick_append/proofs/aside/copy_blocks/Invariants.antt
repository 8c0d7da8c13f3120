-- `copy_blocks` meets its contract. Assumes nothing.
use Rattle.pick_append.proofs.AppendLaws.{copy_start, copy_next, copy_end}
use Rattle.pick_append.specs.Appending.{Copied}
use native.Mathlib.Omega.{arith}
use Prim.Native.Nat.{◌-◌, ◌≤◌}
use borrow.Author.Rules.{rules}
use Rattle.pick_append.proofs.aside.copy_blocks.Given as goal

abbrev pub invariant-loop-k : goal.invariant-loop-k
invariant-loop-k l = (l.k ≤ l.n) × Copied l.at l.k l.aside l.initial.out l.out
