-- `start_of` meets its contract: the first word above the rank below. Assumes nothing.
use native.Mathlib.Omega.{arith}
use Rattle.list_entries.proofs.WordLaws.{top_below, top_least}
use Rattle.list_groups.proofs.Searching.{rises_splits}
use Rattle.list_places.proofs.Seeking.{seeks_start, start_rank}
use Rattle.list_places.proofs.start_of.Goals as goal

pub overflow_sub-top : goal.overflow_sub-top
overflow_sub-top c = top_least c.top_of-top.ensures c.requires.w_nonzero

pub halve-requires : goal.halve-requires
halve-requires c = record {
  from_le_end = omega arith;
  end_in_bounds = c.requires.end_in_bounds;
  splits = rises_splits _ _ _ _ c.args.list.now (top_below c.top_of-top.ensures c.requires.w_nonzero) c.requires.rises;
}

pub returns : goal.returns
returns c = let s = seeks_start c.args.w c.args.end c.args.list.now c.requires.end_in_bounds c.requires.w_nonzero c.requires.list_bound
    c.top_of-top.ensures c.halve.ensures in
    (s.ahead, start_rank c.requires.w_nonzero c.top_of-top.ensures c.halve.ensures (omega (arith, s.ahead, s.inside)))
