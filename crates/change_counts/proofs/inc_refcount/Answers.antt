-- `inc_refcount` meets its contract. Assumes nothing.
use native.Mathlib.Omega.{arith}
use Rattle.change_steps.proofs.MendLaws.{beside_works}
use Rattle.change_counts.proofs.CountLaws.{count_room, peer_came}
use Rattle.change_counts.proofs.inc_refcount.Goals as goal

pub overflow_add-count : goal.overflow_add-count
overflow_add-count c = record {
  fits = omega (
    arith,
    count_room c.args.s c.args.draws.now c.args.i c.requires.i_lt_pieces c.args.words.now c.args.cells.now
        c.peer_count-count.result c.peer_count-count.ensures c.requires.stands_beside c.requires.words_bound,
  );
}

pub set_peer_count-requires : goal.set_peer_count-requires
set_peer_count-requires c = let m = count_room c.args.s c.args.draws.now c.args.i c.requires.i_lt_pieces c.args.words.now c.args.cells.now
    c.peer_count-count.result c.peer_count-count.ensures c.requires.stands_beside c.requires.words_bound in
    record {
      works_beside = beside_works _ _ _ c.requires.stands_beside;
      i_lt_pieces = (c.requires.i_lt_pieces, m);
      used_in_bounds = omega arith;
    }

pub returns : goal.returns
returns c = peer_came c.args.s _ c.args.i c.requires.i_lt_pieces c.args.words.now c.args.cells.now c.peer_count-count.result c.peer_count-count.ensures _ _
    c.set_peer_count.result c.set_peer_count.ensures
