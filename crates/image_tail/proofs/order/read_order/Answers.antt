-- `read_order` meets its contract. The loop's invariant: so many places were read, and what is left decides.
use Prim.Native.Nat.{◌-◌}
use native.Mathlib.Omega.{arith}
use lib.ListN.{length}
use Rattle.image_tail.proofs.OrderLaws.{Reading, reading_start, reading_next, reading_fault, reading_end}
use borrow.Author.Rules.{rules}
use Rattle.image_tail.proofs.order.read_order.Goals as goal

pub loop-k-init : goal.loop-k-init
loop-k-init c = reading_start _ _ _ _ _ c.requires.n_bound.1 c.requires.start_in_bounds

pub returns-in_default : goal.returns-in_default
returns-in_default c = reading_fault _ _ _ _ _ _ _ c.loop-k.last c.loop-k.at c.loop-k.k c.loop-k.invariant (omega arith) _ _ c.take_place.ensures
    c.in_default.is

pub overflow_add-at : goal.overflow_add-at
overflow_add-at c = omega (
  arith,
  (reading_next _ _ _ _ _ _ _ c.loop-k.last c.loop-k.at c.loop-k.k c.loop-k.invariant (omega arith) _ _
      c.take_place.ensures _ c.in-Some.is).room,
)

pub loop-k-preserved : goal.loop-k-preserved
loop-k-preserved c = reading_next _ _ _ _ _ _ _ c.loop-k.last c.loop-k.at c.loop-k.k c.loop-k.invariant (omega arith) _ _ c.take_place.ensures
    _ c.in-Some.is

pub returns : goal.returns
returns c = reading_end _ _ _ _ _ _ _ c.loop-k.last c.loop-k.at c.loop-k.k c.loop-k.invariant
    (omega arith)
