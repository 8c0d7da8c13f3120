-- `one_step` meets its contract. Assumes nothing.
use mathlib.Core.Path.{sym}
use native.Mathlib.Omega.{arith}
use Rattle.memory_halving.proofs.StepLaws.{step_up, step_not}
use borrow.Author.Rules.{rules}
use Rattle.memory_halving.proofs.one_step.Goals as goal

pub returns-then-u32_to_usize-i : goal.returns-then-u32_to_usize-i
returns-then-u32_to_usize-i c = sym (step_up c.args.rows.now c.args.i c.args.step c.args.low (omega (arith, c.u32_to_usize.ensures, c.if-u32_to_usize-i.true)))

pub returns-else-u32_to_usize-i : goal.returns-else-u32_to_usize-i
returns-else-u32_to_usize-i c = sym (step_not c.args.rows.now c.args.i c.args.step c.args.low (omega (arith, c.u32_to_usize.ensures, c.if-u32_to_usize-i.false)))
