-- `rows_pass` meets its contract: after j blocks the joined cells are in range exactly where the first j are good, and the numbers are
-- those of the first j. Assumes nothing.
use Prim.Native.Nat.{◌≤◌, ◌-◌}
use native.Mathlib.Omega.{arith}
use Rattle.check_blocks.specs.Rows.{row_in}
use Rattle.check_blocks.proofs.CountLaws.{Counting, counting_start, counting_next, counting_end, numbers_few}
use borrow.Author.Rules.{rules}
use Rattle.check_blocks.proofs.blocks.rows_pass.Given as goal

abbrev pub invariant-loop-j : goal.invariant-loop-j
invariant-loop-j l = (l.j ≤ l.many) × Counting l.states l.num_peers l.has l.sum l.counts l.j
