-- `pieces_at_work` meets its contract: after i pieces the number is that of the first i. Assumes nothing.
use Prim.Native.Nat.{◌≤◌, ◌-◌}
use native.Mathlib.Omega.{arith}
use Rattle.check_partials.proofs.GoodLaws.{Working, working_start, working_next, working_end}
use borrow.Author.Rules.{rules}
use Rattle.check_partials.proofs.partials.pieces_at_work.Goals as goal

pub loop-i-init : goal.loop-i-init
loop-i-init c = (omega arith, working_start _)

pub bounds-states-i : goal.bounds-states-i
bounds-states-i c = omega (arith, c.piece_column-states.ensures.long)

pub overflow_add-many : goal.overflow_add-many
overflow_add-many c = omega (
  arith,
  c.loop-i.invariant.1.few,
  c.one_if-many.ensures.most,
  c.requires.sizes.many,
)

pub loop-i-preserved : goal.loop-i-preserved
loop-i-preserved c = (
  omega arith,
  working_next _ _ _ _ c.loop-i.invariant.1 c.one_if-many.ensures.is
      c.one_if-many.ensures.most,
)

pub returns : goal.returns
returns c = working_end _ _ _ _ _ _ c.piece_column-states.ensures c.loop-i.invariant.1
    (omega arith) c.u16_to_usize.ensures
