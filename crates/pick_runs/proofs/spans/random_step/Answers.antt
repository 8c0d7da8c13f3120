-- `random_step` meets its contract. Assumes nothing.
use Rattle.pick_runs.proofs.AllLaws.{words_blocks, short_span, all_span}
use Rattle.pick_new.proofs.InLaws.{in_span, some_blocks, few_blocks, blocks_few}
use Rattle.model.specs.Lists.{nth, set_nth}
use mathlib.Core.List.{[]}
use native.Mathlib.Omega.{arith}
use borrow.Author.Rules.{rules}
use Rattle.pick_runs.proofs.spans.random_step.Goals as goal

pub bounds-ignored-k : goal.bounds-ignored-k
bounds-ignored-k c = omega (arith, c.requires.span_room.run.marks, (few_blocks c.requires.span_room.run.stands).1)

pub returns-then-ignored-k : goal.returns-then-ignored-k
unfolding nth
returns-then-ignored-k c = short_span c.args.k c.if-ignored-k.true c.shorter.ensures (some_blocks c.requires.span_room.run.stands)

pub bounds-ignored-k-2 : goal.bounds-ignored-k-2
bounds-ignored-k-2 c = omega (arith, c.requires.span_room.run.marks, (few_blocks c.requires.span_room.run.stands).1)

pub blocks_in_piece-n-requires : goal.blocks_in_piece-n-requires
blocks_in_piece-n-requires c = record {
  words_span = in_span c.requires.span_room.run.stands;
  i_lt_pieces = c.requires.k_lt_pieces;
}

pub take_all-requires : goal.take_all-requires
take_all-requires c = let e = words_blocks c.args.k c.blocks_in_piece-n.result c.blocks_in_piece-n.ensures c.requires.span_room.run.picker c.requires.span_room.run.stands in
    let l = blocks_few c.requires.span_room.run.stands c.args.k in
    let w = few_blocks c.requires.span_room.run.stands in
    record {
      n_in_bounds = (omega arith, omega arith);
      k_bound = (omega arith, omega arith);
      count_room = record { long = c.requires.span_room.counters.long; blocks = omega arith };
    }

pub shape_of-out : goal.shape_of-out
shape_of-out c = (c.take_all.ensures.run []).kept.long

pub shape_of-loops : goal.shape_of-loops
shape_of-loops c = (c.take_all.ensures.run []).counters

pub returns : goal.returns
unfolding nth set_nth
returns c = let e = words_blocks c.args.k c.blocks_in_piece-n.result c.blocks_in_piece-n.ensures c.requires.span_room.run.picker c.requires.span_room.run.stands in
    let l = blocks_few c.requires.span_room.run.stands c.args.k in
    let w = few_blocks c.requires.span_room.run.stands in
    all_span c.args.k c.blocks_in_piece-n.result c.if-ignored-k.false (omega (arith, c.requires.span_room.run.marks)) c.blocks_in_piece-n.ensures (omega arith) c.take_all.ensures
