-- `check_pieces::pads_one_by_one` meets its contract. The loop's invariant: the pads that are left decide.
use Prim.Native.Nat.{◌-◌}
use native.Mathlib.Omega.{arith}
use Rattle.check_pieces.proofs.PadLaws.{testing_start, pad_above, pad_next, pads_end}
use borrow.Author.Rules.{rules}
use Rattle.check_pieces.proofs.pads.pads_one_by_one.Goals as goal

pub loop-pad-init : goal.loop-pad-init
loop-pad-init c = testing_start _ _

pub returns-then-size-pad : goal.returns-then-size-pad
returns-then-size-pad c = pad_above _ _ c.loop-pad.pad-index c.loop-pad.invariant (omega arith) c.if-size-pad.true

pub loop-pad-preserved : goal.loop-pad-preserved
loop-pad-preserved c = pad_next _ _ c.loop-pad.pad-index c.loop-pad.invariant (omega arith) (omega arith)

pub returns : goal.returns
returns c = pads_end _ _ c.loop-pad.pad-index c.loop-pad.invariant (omega arith)
