-- `first_step` meets its contract. Assumes nothing.
use native.Mathlib.Omega.{arith}
use Rattle.memory_halving.proofs.StepLaws.{first_low, first_high}
use borrow.Author.Rules.{rules}
use Rattle.memory_halving.proofs.first_step.Goals as goal

pub returns-then-low-most : goal.returns-then-low-most
returns-then-low-most c = rw c.one_step-low.ensures (first_low c.args.live c.args.rows.now c.args.i c.requires.rows_value c.args.width c.requires.width_nonzero.0 c.requires.width_nonzero.1 c.requires.width_nonzero.2
    (omega (arith, c.requires.width_nonzero.1, c.one_step-low.ensures, c.if-low-most.true)))

pub returns-else-low-most : goal.returns-else-low-most
returns-else-low-most c = first_high c.args.live c.args.rows.now c.args.i c.requires.rows_value c.args.width c.requires.width_nonzero.0 c.requires.width_nonzero.1 c.requires.width_nonzero.2
    (omega (arith, c.requires.width_nonzero.1, c.one_step-low.ensures, c.if-low-most.false))
