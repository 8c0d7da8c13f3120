-- `two_steps` meets its contract: the middle row tells which of its parts counts. Assumes nothing.
use mathlib.Core.Path.{◌∙◌}
use native.Mathlib.Omega.{arith}
use Rattle.memory_halving.proofs.StepLaws.{two_far, two_near}
use borrow.Author.Rules.{rules}
use Rattle.memory_halving.proofs.two_steps.Goals as goal

pub returns-then-u32_to_usize-i : goal.returns-then-u32_to_usize-i
returns-then-u32_to_usize-i c = c.one_step-far.ensures
    ∙ two_far c.args.rows.now c.args.i c.args.step c.args.low (omega (arith, c.u32_to_usize.ensures, c.if-u32_to_usize-i.true))

pub returns-else-u32_to_usize-i : goal.returns-else-u32_to_usize-i
returns-else-u32_to_usize-i c = c.one_step-near.ensures
    ∙ two_near c.args.rows.now c.args.i c.args.step c.args.low (omega (arith, c.u32_to_usize.ensures, c.if-u32_to_usize-i.false))
