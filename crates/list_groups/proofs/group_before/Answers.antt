-- `group_before` meets its contract: the first word above the rank below, and from there the first above the rank. Assumes nothing.
use borrow.Author.Rules.{rules}
use native.Mathlib.Omega.{arith}
use Rattle.list_entries.proofs.WordLaws.{top_below, top_least}
use Rattle.list_groups.proofs.Searching.{rises_within, rises_splits, grouped}
use Rattle.list_groups.proofs.group_before.Goals as goal

pub overflow_sub-top : goal.overflow_sub-top
overflow_sub-top c = top_least c.top_of-top.ensures c.requires.w_nonzero

pub halve-low-requires : goal.halve-low-requires
halve-low-requires c = let under = top_below c.top_of-top.ensures c.requires.w_nonzero in
    record {
      from_le_end = omega arith;
      end_in_bounds = c.requires.end_in_bounds;
      splits = rises_splits _ _ _ _ c.args.list.now under c.requires.rises;
    }

pub end_within-high-requires : goal.end_within-high-requires
end_within-high-requires c = let rises = rises_within 0 c.args.end c.halve-low.result c.args.end c.args.list.now c.halve-low.ensures.starts (omega arith) c.requires.rises in
    record {
      from_le_end = c.halve-low.ensures.ends;
      end_in_bounds = c.requires.end_in_bounds;
      splits = rises_splits _ _ _ _ c.args.list.now c.top_of-top.ensures rises;
    }

pub returns : goal.returns
returns c = grouped c.requires.w_nonzero c.top_of-top.ensures
    c.halve-low.ensures c.end_within-high.ensures
