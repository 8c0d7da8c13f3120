-- `count_extents` meets its contract. The loop's invariant: so many extents stand one after another.
use mathlib.Core.Path.{sym, ◌∙◌}
use Prim.Native.Nat.{◌-◌}
use native.Mathlib.Omega.{arith}
use borrow.Author.Tests.{not-true, not-false}
use Rattle.image_store.proofs.TailLaws.{Counting, counting_start, counting_next, counting_stop, counting_full}
use borrow.Author.Rules.{rules}
use Rattle.image_store.proofs.tail.count_extents.Given as goal

abbrev pub invariant-loop-k : goal.invariant-loop-k
invariant-loop-k l = Counting l.at l.bytes l.k
