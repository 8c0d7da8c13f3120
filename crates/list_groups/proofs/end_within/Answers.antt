-- `end_within` meets its contract: where the last word is up to `top`, all before it are. Assumes nothing.
use borrow.Author.Rules.{rules}
use native.Mathlib.Omega.{arith}
use Rattle.list_groups.proofs.Searching.{parted_all}
use Rattle.list_groups.proofs.end_within.Goals as goal

pub bounds-list-end : goal.bounds-list-end
bounds-list-end c = omega (arith, c.requires.end_in_bounds, c.if-from-end.true)

pub returns-then-list-end : goal.returns-then-list-end
returns-then-list-end c = parted_all c.requires.splits c.if-from-end.true c.if-list-end.true

pub group_end-requires : goal.group_end-requires
group_end-requires c = record {
  from_le_end = c.requires.from_le_end;
  end_in_bounds = c.requires.end_in_bounds;
  splits = c.requires.splits;
  near_nonzero = omega arith;
}

pub returns : goal.returns
returns c = c.group_end.ensures
