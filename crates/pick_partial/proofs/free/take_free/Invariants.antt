-- `take_free` meets its contract. Assumes nothing.
use mathlib.Core.Path.{refl, ◌∙◌}
use Prim.Native.Nat.{◌-◌}
use native.Mathlib.Omega.{arith}
use lib.ListN.{length}
use Rattle.pick_partial.proofs.FreeLaws.{Taking, taking_start, taking_next, taking_stop, taking_end}
use borrow.Author.Rules.{rules}
use Rattle.pick_partial.proofs.free.take_free.Given as goal

abbrev pub invariant-loop-k : goal.invariant-loop-k
invariant-loop-k l = Taking l.states l.i l.first l.initial.cur l.cur l.initial.out l.out l.j l.k
