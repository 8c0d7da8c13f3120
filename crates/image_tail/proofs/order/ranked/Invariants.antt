-- `ranked` meets its contract. The loop's invariant: those counted and those that are left are all.
use mathlib.Core.Path.{◌∙◌}
use mathlib.Core.Logic.{⊎_elim}
use Prim.Native.Nat.{◌-◌}
use native.Mathlib.Omega.{arith}
use Rattle.check_list.proofs.ListTests.{Counting, counting_start, count_one, count_none, count_end}
use borrow.Author.Rules.{rules}
use Rattle.image_tail.proofs.order.ranked.Given as goal

abbrev pub invariant-loop-i : goal.invariant-loop-i
invariant-loop-i l = Counting l.ranks l.n l.many l.i
