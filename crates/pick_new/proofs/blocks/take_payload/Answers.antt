-- `take_payload` meets its contract. Assumes nothing.
use mathlib.Core.Path.{sym, ◌∙◌}
use Prim.Native.Nat.{◌-◌, ◌≤◌}
use native.Mathlib.Omega.{arith}
use borrow.Author.Rules.{rules}
use Rattle.model.specs.Lists.{from, range, walk}
use Rattle.model.specs.pick.Blocks.{took, contiguous_met}
use Rattle.pick_state.proofs.RestLaws.{OutRest}
use Rattle.pick_new.specs.Taken.{taken_numbers}
use Rattle.pick_new.proofs.BlockLaws.{taken_step, payload_next, paid_start, paid_stop, paid_end}
use Rattle.pick_new.proofs.blocks.take_payload.Goals as goal

pub overflow_mul-base : goal.overflow_mul-base
overflow_mul-base c = omega (arith, c.requires.i_bound.0)

pub loop-j-init : goal.loop-j-init
loop-j-init c = (omega arith, paid_start _ _ _ _)

pub overflow_add-base : goal.overflow_add-base
overflow_add-base c = omega (arith, c.requires.i_bound.0, c.requires.i_bound.1, c.loop-j-test.true)

pub bounds-out-end : goal.bounds-out-end
bounds-out-end c = omega (arith, c.requires.n_in_bounds.0, c.loop-j-test.true)

pub met_after-requires : goal.met_after-requires
met_after-requires c = omega (arith, c.requires.n_in_bounds.1, c.loop-j-test.true)

pub taken-requires : goal.taken-requires
taken-requires c = (omega (arith, c.requires.n_in_bounds.0), omega (arith, c.requires.n_in_bounds.1))

pub returns-then-met_after : goal.returns-then-met_after
returns-then-met_after c = paid_stop _ _ _ _ c.loop-j.invariant.1 c.loop-j-test.true (taken_step _ _ _ _ (omega (arith, c.requires.i_bound.1)) (omega (arith, c.requires.n_in_bounds.0)) _ c.usize_to_u64.ensures)
    (sym c.met_after.ensures ∙ c.if-met_after.true) _ c.taken.ensures

pub loop-j-preserved : goal.loop-j-preserved
loop-j-preserved c = (
  omega arith,
  payload_next _ _ _ _ c.loop-j.invariant.1 c.loop-j-test.true (taken_step _ _ _ _ (omega (arith, c.requires.i_bound.1)) (omega (arith, c.requires.n_in_bounds.0)) _ c.usize_to_u64.ensures)
      (sym c.met_after.ensures ∙ c.if-met_after.false),
)

pub taken-requires-2 : goal.taken-requires-2
taken-requires-2 c = (omega (arith, c.requires.n_in_bounds.0), omega (arith, c.requires.n_in_bounds.1))

pub shape_of-out : goal.shape_of-out
shape_of-out c = c.loop-j.invariant.1.kept.long

pub returns : goal.returns
returns c = paid_end _ _ _ _ c.loop-j.invariant.1 c.loop-j.invariant.0 c.loop-j-test.false _ c.taken-2.ensures
