-- `take_blocks` meets its contract. Assumes nothing.
use Prim.Native.Nat.{◌-◌, ◌≤◌}
use native.Mathlib.Omega.{arith}
use borrow.Author.Rules.{rules}
use Rattle.model.specs.Lists.{from, range, for_each}
use Rattle.model.specs.pick.Blocks.{took}
use Rattle.pick_state.proofs.RestLaws.{OutRest}
use Rattle.pick_new.specs.Taken.{taken_numbers}
use Rattle.pick_new.proofs.BlockLaws.{blocks_next, taken_start, taken_step, taken_end}
use Rattle.pick_new.proofs.blocks.take_blocks.Goals as goal

pub overflow_mul-base : goal.overflow_mul-base
overflow_mul-base c = omega (arith, c.requires.i_bound.0)

pub loop-j-init : goal.loop-j-init
loop-j-init c = (omega arith, taken_start _ _ _ _)

pub overflow_add-base : goal.overflow_add-base
overflow_add-base c = omega (arith, c.requires.i_bound.0, c.requires.i_bound.1, c.loop-j-test.true)

pub bounds-out-end : goal.bounds-out-end
bounds-out-end c = omega (arith, c.requires.n_in_bounds.0, c.loop-j-test.true)

pub loop-j-preserved : goal.loop-j-preserved
loop-j-preserved c = (omega arith, blocks_next _ _ _ _ c.loop-j.invariant.1 c.loop-j-test.true (taken_step _ _ _ _ (omega (arith, c.requires.i_bound.1)) (omega (arith, c.requires.n_in_bounds.0)) _ c.usize_to_u64.ensures))

pub taken-requires : goal.taken-requires
taken-requires c = (omega (arith, c.requires.n_in_bounds.0), omega (arith, c.requires.n_in_bounds.1))

pub shape_of-out : goal.shape_of-out
shape_of-out c = c.loop-j.invariant.1.kept.long

pub returns : goal.returns
returns c = taken_end _ _ _ _ c.loop-j.invariant.1 c.loop-j.invariant.0 c.loop-j-test.false _ c.taken.ensures
