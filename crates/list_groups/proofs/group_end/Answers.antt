-- `group_end` meets its contract: a search within the last step. Assumes nothing.
use native.Mathlib.Omega.{arith}
use Rattle.list_groups.proofs.Searching.{splits_within, parted_within}
use Rattle.list_groups.proofs.group_end.Goals as goal

pub gallop-within-requires : goal.gallop-within-requires
gallop-within-requires c = record {
  from_le_end = c.requires.from_le_end;
  end_in_bounds = c.requires.end_in_bounds;
  splits = c.requires.splits;
  near_nonzero = c.requires.near_nonzero;
}

pub halve-requires : goal.halve-requires
halve-requires c = record {
  from_le_end = c.gallop-within.ensures.rises;
  end_in_bounds = omega (arith, c.gallop-within.ensures.ends, c.requires.end_in_bounds);
  splits = splits_within _ _ _ _ _ c.args.list.now c.gallop-within.ensures.starts c.gallop-within.ensures.ends c.requires.splits;
}

pub returns : goal.returns
returns c = parted_within c.gallop-within.ensures c.halve.ensures
