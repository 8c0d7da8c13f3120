-- `set_aside` meets its contract. Assumes nothing.
use Prim.Native.Nat.{◌-◌}
use native.Mathlib.Omega.{arith}
use mathlib.Core.Path.{refl}
use lib.ListN.{length}
use Rattle.pick_partial.proofs.FreeLaws.{Putting, put_none, putting_start, putting_next, putting_end}
use borrow.Author.Rules.{rules}
use Rattle.pick_partial.proofs.free.set_aside.Given as goal

abbrev pub invariant-loop-k : goal.invariant-loop-k
invariant-loop-k l = Putting l.states l.i l.first l.initial.cur l.cur l.initial.aside l.aside l.j l.k
