-- `narrow` meets its contract: 512 rows or fewer, then 256 or 128, then 64. Assumes nothing.
use native.Mathlib.Omega.{arith}
use Rattle.memory_halving.proofs.StepLaws.{narrow_step, narrow_two}
use borrow.Author.Rules.{rules}
use Rattle.memory_halving.proofs.narrow.Goals as goal

pub returns-then-live-ge256 : goal.returns-then-live-ge256
returns-then-live-ge256 c = narrow_two c.args.live c.args.rows.now c.args.i c.requires.rows_value 256 64 _ _ (omega arith) (omega arith) c.first_step-low.ensures
    c.two_steps.ensures

pub returns-then-live-ge128 : goal.returns-then-live-ge128
returns-then-live-ge128 c = rw c.one_step.ensures
    (narrow_step c.args.live c.args.rows.now c.args.i c.requires.rows_value 128 64 _ (omega arith) (omega arith) c.first_step-low-then-live-ge128.ensures)
