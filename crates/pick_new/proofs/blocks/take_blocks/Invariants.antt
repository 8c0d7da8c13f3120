-- `take_blocks` meets its contract. Assumes nothing.
use Prim.Native.Nat.{◌-◌, ◌≤◌}
use native.Mathlib.Omega.{arith}
use borrow.Author.Rules.{rules}
use Rattle.model.specs.Lists.{from, range, for_each}
use Rattle.model.specs.pick.Blocks.{took}
use Rattle.pick_state.proofs.RestLaws.{OutRest}
use Rattle.pick_new.specs.Taken.{taken_numbers}
use Rattle.pick_new.proofs.BlockLaws.{blocks_next, taken_start, taken_step, taken_end}
use Rattle.pick_new.proofs.blocks.take_blocks.Given as goal

abbrev pub invariant-loop-j : goal.invariant-loop-j
invariant-loop-j l = (l.j ≤ l.n) × OutRest (for_each (took l.i) (from 0 l.n)) (for_each (took l.i) (range l.j l.n)) l.j l.t (taken_numbers l.j l.t) l.initial.out l.out
