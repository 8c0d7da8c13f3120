-- `rank_pieces` meets its contract. The invariant: the first i numbers are ranks. Assumes nothing.
use Prim.Native.Nat.{◌-◌}
use native.Mathlib.Omega.{arith}
use borrow.Author.Rules.{rules}
use Rattle.memory_ranks.proofs.Ranking.{Filling, filling_start, filling_next, filling_end}
use Rattle.memory_ranks.proofs.rank_pieces.Goals as goal

pub loop-i-init : goal.loop-i-init
loop-i-init c = filling_start c.args.s c.args.words.now c.args.cells.now _

pub rank_at-requires : goal.rank_at-requires
rank_at-requires c = record {
  spans = c.requires.spans;
  ranges = c.requires.ranges;
  i_lt_pieces = c.loop-i-test.true;
}

pub offset_bounds-ranks-i : goal.offset_bounds-ranks-i
offset_bounds-ranks-i c = omega (arith, c.requires.spans.in_words.sizes.many)

pub bounds-ranks-i : goal.bounds-ranks-i
bounds-ranks-i c = omega (arith, c.requires.pieces_in_bounds, c.loop-i.invariant.filled.long)

pub loop-i-preserved : goal.loop-i-preserved
loop-i-preserved c = filling_next _ _ _ _ _ _ c.loop-i.invariant c.requires.pieces_in_bounds c.loop-i-test.true _ c.rank_at.ensures

pub shape_of-ranks : goal.shape_of-ranks
shape_of-ranks c = c.loop-i.invariant.filled.long

pub returns : goal.returns
returns c = filling_end _ _ _ _ _ _ c.loop-i.invariant (omega arith)
