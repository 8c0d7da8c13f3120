-- `fresh_blocks` meets its contract: the first j blocks are fresh. Assumes nothing.
use Prim.Native.Nat.{◌-◌, ◌≤◌}
use native.Mathlib.Omega.{arith}
use Rattle.memory_opening.specs.Opening.{Fresh}
use Rattle.memory_opening.proofs.FreshLaws.{fresh_start, fresh_span, fresh_next, fresh_end}
use borrow.Author.Rules.{rules}
use Rattle.memory_opening.proofs.fresh_blocks.Goals as goal

pub loop-j-init : goal.loop-j-init
loop-j-init c = (omega arith, fresh_start _ _ _ _)

pub fresh_block-requires : goal.fresh_block-requires
fresh_block-requires c = record {
  cells_span = fresh_span _ _ _ _ _ _ c.requires.cells_span c.loop-j.invariant.1;
  p_lt_places = (c.requires.p_lt_places.0, omega (arith, c.requires.p_lt_places.1));
  state_bound = c.fresh_state-state.ensures.1;
}

pub loop-j-preserved : goal.loop-j-preserved
loop-j-preserved c = (
  omega arith,
  fresh_next _ _ _ _ _ _ _ _ (omega (arith, c.requires.cells_span.sizes.places, c.requires.p_lt_places.0)) (omega (arith, c.requires.p_lt_places.1)) c.loop-j.invariant.1
      c.fresh_block.ensures c.fresh_state-state.ensures.0,
)

pub shape_of-cells : goal.shape_of-cells
shape_of-cells c = c.loop-j.invariant.1.kept.long

pub returns : goal.returns
returns c = fresh_end _ _ _ _ _ _ _ c.loop-j.invariant.1 (omega arith)
