-- `leave_one` meets its contract. Assumes nothing.
use mathlib.Core.List.{[]}
use Rattle.change_counts.proofs.CountLaws.{peer_left, seed_there, seed_left}
use Rattle.change_counts.proofs.leave_one.Goals as goal

pub returns-then-count-gt0 : goal.returns-then-count-gt0
returns-then-count-gt0 c = peer_left c.args.s [] c.args.i c.requires.i_lt_pieces c.args.words.now c.args.cells.now c.peer_count-count.result c.peer_count-count.ensures
    c.if-count-gt0.true

pub break_one_seed-requires : goal.break_one_seed-requires
break_one_seed-requires c = record {
  stands_beside = c.requires.stands_beside;
  bound = seed_there c.args.s [] c.args.i c.requires.i_lt_pieces c.args.words.now c.args.cells.now c.peer_count-count.result c.peer_count-count.ensures
      c.requires.stands_beside c.requires.nonzero c.if-count-gt0.false;
}

pub returns : goal.returns
returns c = let m = seed_there c.args.s [] c.args.i c.requires.i_lt_pieces c.args.words.now c.args.cells.now c.peer_count-count.result c.peer_count-count.ensures
    c.requires.stands_beside c.requires.nonzero c.if-count-gt0.false in
    seed_left c.args.s [] c.args.i c.requires.i_lt_pieces c.args.words.now c.args.cells.now c.peer_count-count.result c.peer_count-count.ensures _ _ m
    c.if-count-gt0.false c.break_one_seed.ensures
