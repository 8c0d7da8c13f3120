-- `group_ahead` meets its contract: the first word above the rank below, and from there the first above the rank. Assumes nothing.
use borrow.Author.Rules.{rules}
use native.Mathlib.Omega.{arith}
use Rattle.list_entries.proofs.WordLaws.{top_below, top_least}
use Rattle.list_groups.proofs.Searching.{rises_within, rises_splits, grouped}
use Rattle.list_groups.proofs.group_ahead.Goals as goal

pub overflow_sub-top : goal.overflow_sub-top
overflow_sub-top c = omega (arith, top_least c.top_of-top.ensures c.requires.w_nonzero)

pub group_end-low-requires : goal.group_end-low-requires
group_end-low-requires c = let under = top_below c.top_of-top.ensures c.requires.w_nonzero in
    record {
      from_le_end = c.requires.from_le_end;
      end_in_bounds = c.requires.end_in_bounds;
      splits = rises_splits _ _ _ _ c.args.list.now under c.requires.rises;
      near_nonzero = omega arith;
    }

pub group_end-high-requires : goal.group_end-high-requires
group_end-high-requires c = let rises = rises_within c.args.from c.args.end c.group_end-low.result c.args.end c.args.list.now c.group_end-low.ensures.starts (omega arith)
    c.requires.rises in
    record {
      from_le_end = c.group_end-low.ensures.ends;
      end_in_bounds = c.requires.end_in_bounds;
      splits = rises_splits _ _ _ _ c.args.list.now c.top_of-top.ensures rises;
      near_nonzero = omega arith;
    }

pub returns : goal.returns
returns c = grouped c.requires.w_nonzero c.top_of-top.ensures
    c.group_end-low.ensures c.group_end-high.ensures
