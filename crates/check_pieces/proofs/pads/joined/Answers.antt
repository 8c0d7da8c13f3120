-- `check_pieces::joined` meets its contract. The loop's invariant: no pad so far is above what is joined.
use Prim.Native.Nat.{◌-◌}
use native.Mathlib.Omega.{arith}
use Rattle.check_pieces.proofs.PadLaws.{joining_start, join_next, join_end}
use borrow.Author.Rules.{rules}
use Rattle.check_pieces.proofs.pads.joined.Goals as goal

pub loop-pad-init : goal.loop-pad-init
loop-pad-init c = joining_start _

pub loop-pad-preserved : goal.loop-pad-preserved
loop-pad-preserved c = join_next _ c.loop-pad.all c.loop-pad.pad-index c.loop-pad.invariant (omega arith)

pub returns : goal.returns
returns c = join_end _ _ c.loop-pad.pad-index c.loop-pad.invariant (omega arith)
