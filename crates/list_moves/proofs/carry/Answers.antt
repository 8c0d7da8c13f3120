-- `carry` meets its contract. The invariant: what is left to carry from k on gives what is to be made. Assumes nothing.
use borrow.Author.Rules.{rules}
use mathlib.Core.Path.{refl}
use Prim.Native.Nat.{◌-◌}
use native.Mathlib.Omega.{arith}
use lib.ListN.{set, length-set}
use Rattle.list_moves.specs.Moves.{carried}
use Rattle.list_groups.proofs.Searching.{rises_splits}
use Rattle.list_moves.proofs.Carrying.{Carries, rises_behind, carries_come, carries_next, carries_end}
use Rattle.list_moves.proofs.carry.Goals as goal

pub group_end-k-requires : goal.group_end-k-requires
group_end-k-requires c = let split = rises_splits _ _ _ _ c.args.list.now c.top_of.ensures c.requires.rises in
    record {
      from_le_end = c.requires.from_le_end;
      end_in_bounds = omega (arith, c.requires.end_in_bounds);
      splits = split;
      near_nonzero = omega arith;
    }

pub loop-k-init : goal.loop-k-init
loop-k-init c = carries_come _ c.args.from c.args.end c.args.first _ _ _ c.args.list.now c.args.list.now (omega arith)
    c.top_of.ensures c.requires.end_in_bounds refl refl c.requires.rises c.requires.no_lower c.group_end-k.ensures

pub bounds-list-k : goal.bounds-list-k
bounds-list-k c = omega (arith, c.loop-k.invariant.long, c.loop-k-test.true, c.requires.end_in_bounds)

pub bounds-list-k-in-loop-k : goal.bounds-list-k-in-loop-k
bounds-list-k-in-loop-k c = omega (arith, c.loop-k.invariant.long, c.loop-k-test.true, c.requires.end_in_bounds)

pub group_end-k-requires-in-loop-k : goal.group_end-k-requires-in-loop-k
group_end-k-requires-in-loop-k c = let rises = rises_behind c.loop-k.k c.loop-k.held c.args.end c.loop-k.list c.loop-k.invariant.rest in record {
  from_le_end = omega (arith, c.loop-k-test.true);
  end_in_bounds = omega (arith, length-set c.loop-k.list c.loop-k.k c.loop-k.held, c.loop-k.invariant.long, c.requires.end_in_bounds);
  splits = rises_splits _ _ _ _ (set c.loop-k.list c.loop-k.k c.loop-k.held) c.top_of-in-loop-k.ensures rises;
  near_nonzero = c.loop-k.invariant.some;
}

pub overflow_sub-near : goal.overflow_sub-near
overflow_sub-near c = c.group_end-k-in-loop-k.ensures.starts

pub overflow_add-near : goal.overflow_add-near
overflow_add-near c = search rules

pub loop-k-smaller : goal.loop-k-smaller
loop-k-smaller c = omega (arith, c.group_end-k-in-loop-k.ensures.starts, c.loop-k-test.true)

pub loop-k-preserved : goal.loop-k-preserved
loop-k-preserved c = carries_next c.loop-k.invariant c.requires.end_in_bounds
    c.loop-k-test.true _ _ _ (omega arith) c.top_of-in-loop-k.ensures c.group_end-k-in-loop-k.ensures

pub bounds-list-end : goal.bounds-list-end
bounds-list-end c = omega (arith, c.loop-k.invariant.long, c.requires.end_in_bounds)

pub shape_of-list : goal.shape_of-list
shape_of-list c = omega (arith, c.loop-k.invariant.long, length-set c.loop-k.list c.args.end c.loop-k.held)

pub returns : goal.returns
returns c = carries_end c.loop-k.invariant c.requires.end_in_bounds c.loop-k-test.false
