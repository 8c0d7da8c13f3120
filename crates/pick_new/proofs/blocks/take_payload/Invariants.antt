-- `take_payload` meets its contract. Assumes nothing.
use mathlib.Core.Path.{sym, ◌∙◌}
use Prim.Native.Nat.{◌-◌, ◌≤◌}
use native.Mathlib.Omega.{arith}
use borrow.Author.Rules.{rules}
use Rattle.model.specs.Lists.{from, range, walk}
use Rattle.model.specs.pick.Blocks.{took, contiguous_met}
use Rattle.pick_state.proofs.RestLaws.{OutRest}
use Rattle.pick_new.specs.Taken.{taken_numbers}
use Rattle.pick_new.proofs.BlockLaws.{taken_step, payload_next, paid_start, paid_stop, paid_end}
use Rattle.pick_new.proofs.blocks.take_payload.Given as goal

abbrev pub invariant-loop-j : goal.invariant-loop-j
invariant-loop-j l = (l.j ≤ l.n) × OutRest (walk (took l.i) contiguous_met (from 0 l.n)) (walk (took l.i) contiguous_met (range l.j l.n)) l.j l.t (taken_numbers l.j l.t) l.initial.out l.out
