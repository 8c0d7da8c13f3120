-- `store_partials` meets its contract. The loop's invariant: the partials of the pieces so far are stored, and the others are left.
use mathlib.Core.Path.{◌∙◌}
use Prim.Native.Nat.{◌-◌}
use native.Mathlib.Omega.{arith}
use Rattle.image_store.proofs.StoreLaws.{begun_on, Walked, walked_start, walked_next, walked_end}
use borrow.Author.Rules.{rules}
use Rattle.image_store.proofs.partials.store_partials.Given as goal

abbrev pub invariant-loop-i : goal.invariant-loop-i
invariant-loop-i l = Walked l.head l.s l.bytes l.initial.words l.initial.cells l.initial.rows l.words l.cells l.rows l.w l.i
