-- `read_partials` meets its contract. The loop's invariant: the pieces so far are passed, and what is left decides.
use mathlib.Core.Path.{subst}
use native.Mathlib.Omega.{arith}
use Rattle.image_partials.specs.Partials.{Stepped}
use Rattle.image_partials.proofs.WalkLaws.{walking_start, walking_next, walking_fault, walking_end}
use Rattle.image_pieces.proofs.PassedOn.{passed_on}
use Rattle.image_partials.proofs.partials.read_partials.Goals as goal

pub loop-i-init : goal.loop-i-init
loop-i-init c = walking_start _ _ _ c.requires.headed.1.room

pub returns-in_err-w : goal.returns-in_err-w
unfolding Stepped
returns-in_err-w c = rw (passed_on c.from_residual.result c.in_err-w.field-0.0 c.from_residual.ensures.1)
    (walking_fault _ _ _ _ _ c.loop-i.invariant (omega arith) _ (subst (Stepped c.args.head c.loop-i.i c.loop-i.w c.args.bytes.now) c.in_err-w.was
    c.pass_piece.ensures))

pub loop-i-preserved : goal.loop-i-preserved
unfolding Stepped
loop-i-preserved c = walking_next _ _ _ _ _ c.loop-i.invariant (omega arith) _ (subst (Stepped c.args.head c.loop-i.i c.loop-i.w c.args.bytes.now) c.in_ok-w.was
    c.pass_piece.ensures)

pub returns : goal.returns
returns c = walking_end _ _ _ _ _ c.loop-i.invariant (omega arith)
