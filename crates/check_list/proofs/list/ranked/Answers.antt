-- `check_pieces::ranked` meets its contract. The loop's invariant: those counted and those that are left are all.
use mathlib.Core.Path.{◌∙◌}
use mathlib.Core.Logic.{⊎_elim}
use Prim.Native.Nat.{◌-◌}
use native.Mathlib.Omega.{arith}
use Rattle.check_list.proofs.ListTests.{Counting, counting_start, count_one, count_none, count_end}
use borrow.Author.Rules.{rules}
use Rattle.check_list.proofs.list.ranked.Goals as goal
use Rattle.check_list.proofs.list.ranked.Goals.{else-ranks-i-gt0, then-ranks-i-gt0}

pub loop-i-init : goal.loop-i-init
loop-i-init c = counting_start _ _

pub loop-i-preserved : goal.loop-i-preserved
loop-i-preserved c = elim c.if-ranks-i-gt0.branch [ then-ranks-i-gt0 w ↦ count_one _ _ c.loop-i.many c.loop-i.i c.loop-i.invariant (omega arith) w.if-ranks-i-gt0.true _ w.many-is | else-ranks-i-gt0 w ↦ count_none _ _ c.loop-i.many c.loop-i.i c.loop-i.invariant (omega arith) w.if-ranks-i-gt0.false _ w.many-is ]

pub returns : goal.returns
returns c = c.u16_to_usize.ensures ∙ count_end _ _ _ c.loop-i.i c.loop-i.invariant (omega arith)
