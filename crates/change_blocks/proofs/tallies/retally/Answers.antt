-- `retally` meets its contract. Assumes nothing.
use mathlib.Core.Path.{refl}
use native.Mathlib.Omega.{arith}
use lib.Dec.{eqb, ltb}
use Rattle.change_blocks.proofs.TallyLaws.{bit_most, retallied}
use Rattle.change_blocks.proofs.tallies.retally.Goals as goal

pub overflow_add-result : goal.overflow_add-result
overflow_add-result c = omega (arith, c.one_busy-2.ensures, bit_most (ltb 0 c.args.new), c.requires.bound.1)

pub overflow_add-result-2 : goal.overflow_add-result-2
overflow_add-result-2 c = omega (arith, c.one_requested-2.ensures, bit_most (eqb c.args.new 1), c.requires.bound_2.1)

pub returns : goal.returns
returns c = retallied c.args.t c.args.old c.args.new _ refl
    (omega (arith, c.one_busy-2.ensures, c.one_busy.ensures))
    (omega (arith, c.one_requested-2.ensures, c.one_requested.ensures)) refl
