-- `push` meets its contract: w stored at k, and what stood there carried on. Assumes nothing.
use borrow.Author.Rules.{rules}
use mathlib.Core.Path.{◌∙◌}
use native.Mathlib.Omega.{arith}
use lib.ListN.{length-set}
use Rattle.list_moves.proofs.Carrying.{rises_behind, lower_behind, pushed-carried, pushed-end}
use Rattle.list_moves.proofs.push.Goals as goal

pub carry-requires : goal.carry-requires
carry-requires c = record {
  from_le_end = omega arith;
  end_in_bounds = omega (arith, length-set c.args.list.now c.args.k c.args.w, c.requires.end_in_bounds);
  rises = rises_behind c.args.k c.args.w c.args.end c.args.list.now c.requires.rises;
  no_lower = lower_behind c.args.k c.args.w c.args.end c.args.list.now c.requires.rises;
}

pub shape_of-list-then-k-end : goal.shape_of-list-then-k-end
shape_of-list-then-k-end c = omega (arith, length-set c.args.list.now c.args.k c.args.w)

pub returns-then-k-end : goal.returns-then-k-end
returns-then-k-end c = c.carry.ensures ∙ pushed-carried c.args.k c.args.end c.args.w c.args.list.now
    c.if-k-end.true c.requires.end_in_bounds

pub returns-else-k-end : goal.returns-else-k-end
returns-else-k-end c = pushed-end c.args.k c.args.end c.args.w c.args.list.now c.requires.k_le_end c.if-k-end.false c.requires.end_in_bounds
