-- `lower_bound` meets its contract: each step halves the rows that are left. Assumes nothing.
use native.Mathlib.Omega.{arith}
use Rattle.memory_halving.proofs.StepLaws.{narrow_16, narrow_4, narrow_1, narrow_last}
use borrow.Author.Rules.{rules}
use Rattle.memory_lower_bound.proofs.lower_bound.Goals as goal

pub two_steps-of_4-requires : goal.two_steps-of_4-requires
two_steps-of_4-requires c = let n = narrow_16 c.args.live c.args.rows.now c.args.i c.requires.rows_value _ _ c.narrow-of_64.ensures
    c.two_steps-of_16.ensures in
    (omega arith, omega (arith, c.requires.live_bound.0, n.live_all), c.requires.live_bound.1)

pub two_steps-of_1-requires : goal.two_steps-of_1-requires
two_steps-of_1-requires c = let n = narrow_4 c.args.live c.args.rows.now c.args.i c.requires.rows_value _ _ _ c.narrow-of_64.ensures
    c.two_steps-of_16.ensures c.two_steps-of_4.ensures in
    (omega arith, omega (arith, c.requires.live_bound.0, n.live_all), c.requires.live_bound.1)

pub one_step-requires : goal.one_step-requires
one_step-requires c = let n = narrow_1 c.args.live c.args.rows.now c.args.i c.requires.rows_value _ _ _ _ c.narrow-of_64.ensures
    c.two_steps-of_16.ensures c.two_steps-of_4.ensures c.two_steps-of_1.ensures in
    (omega arith, omega (arith, c.requires.live_bound.0, n.live_all), c.requires.live_bound.1)

pub returns : goal.returns
returns c = let n = narrow_1 c.args.live c.args.rows.now c.args.i c.requires.rows_value _ _ _ _ c.narrow-of_64.ensures
    c.two_steps-of_16.ensures c.two_steps-of_4.ensures c.two_steps-of_1.ensures in
    rw c.one_step.ensures (narrow_last c.args.live c.args.rows.now c.args.i c.requires.rows_value _ n)
