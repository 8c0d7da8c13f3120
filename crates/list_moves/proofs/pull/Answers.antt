-- `pull` meets its contract. The invariant: what is left to pull over the free place gives what is to be made. Assumes nothing.
use borrow.Author.Rules.{rules}
use mathlib.Core.Path.{refl}
use Prim.Native.Nat.{◌-◌, ◌+◌, suc}
use native.Mathlib.Omega.{arith}
use Rattle.list_moves.specs.Moves.{pulled}
use Rattle.list_groups.proofs.Searching.{rises_splits}
use Rattle.list_groups.proofs.Searching.{rises_within}
use Rattle.list_moves.proofs.Pulling.{Pulls, pulls_next, pulls_end}
use Rattle.list_moves.proofs.pull.Goals as goal

pub loop-hole-init : goal.loop-hole-init
loop-hole-init c = record { left = refl; at = c.requires.k_le_last; rest = c.requires.rises; some = omega arith; long = refl }

pub slice_reshared_read-top_of : goal.slice_reshared_read-top_of
slice_reshared_read-top_of c = omega (arith, c.loop-hole.invariant.long, c.loop-hole-test.true, c.requires.last_in_bounds)

pub group_end-end-requires : goal.group_end-end-requires
group_end-end-requires c = let rises = rises_within (suc c.loop-hole.hole) (suc c.args.last) (c.loop-hole.hole + 2) (c.args.last + 1) c.loop-hole.list (omega arith) (omega arith) c.loop-hole.invariant.rest in record {
  from_le_end = omega (arith, c.loop-hole-test.true);
  end_in_bounds = omega (arith, c.loop-hole.invariant.long, c.requires.last_in_bounds);
  splits = rises_splits _ _ _ _ c.loop-hole.list c.top_of.ensures rises;
  near_nonzero = c.loop-hole.invariant.some;
}

pub bounds-list-end : goal.bounds-list-end
bounds-list-end c = omega (arith, c.loop-hole.invariant.long, c.loop-hole-test.true, c.group_end-end.ensures.ends, c.group_end-end.ensures.starts, c.requires.last_in_bounds)

pub bounds-list-hole : goal.bounds-list-hole
bounds-list-hole c = omega (arith, c.loop-hole.invariant.long, c.loop-hole-test.true, c.requires.last_in_bounds)

pub loop-hole-smaller : goal.loop-hole-smaller
loop-hole-smaller c = omega (arith, c.group_end-end.ensures.starts, c.loop-hole-test.true)

pub loop-hole-preserved : goal.loop-hole-preserved
loop-hole-preserved c = pulls_next c.loop-hole.invariant c.requires.last_in_bounds c.loop-hole-test.true
    _ _ _ (omega arith) c.top_of.ensures c.group_end-end.ensures

pub shape_of-list : goal.shape_of-list
shape_of-list c = c.loop-hole.invariant.long

pub returns : goal.returns
returns c = pulls_end c.loop-hole.invariant c.requires.last_in_bounds c.loop-hole-test.false
