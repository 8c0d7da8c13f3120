-- `read_order` meets its contract. The loop's invariant: so many places were read, and what is left decides.
use Prim.Native.Nat.{◌-◌}
use native.Mathlib.Omega.{arith}
use lib.ListN.{length}
use Rattle.image_tail.proofs.OrderLaws.{Reading, reading_start, reading_next, reading_fault, reading_end}
use borrow.Author.Rules.{rules}
use Rattle.image_tail.proofs.order.read_order.Given as goal

abbrev pub invariant-loop-k : goal.invariant-loop-k
invariant-loop-k l = Reading l.n (length l.initial.ranks) l.start l.many l.bytes l.initial.ranks l.ranks l.last l.at l.k
