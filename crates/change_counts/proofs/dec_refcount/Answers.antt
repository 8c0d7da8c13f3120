-- `dec_refcount` meets its contract. Assumes nothing.
use mathlib.Core.List.{[]}
use native.Mathlib.Omega.{arith}
use Rattle.change_steps.proofs.MendLaws.{begun_works}
use Rattle.change_counts.proofs.CountLaws.{left_low, peer_went}
use Rattle.change_counts.proofs.dec_refcount.Goals as goal

pub set_peer_count-requires : goal.set_peer_count-requires
set_peer_count-requires c = let w = begun_works c.args.s _ c.args.words.now c.args.cells.now _ _ 0 c.leave_one-count.ensures.begun c.requires.stands_beside in
    let m = left_low c.args.s [] c.args.i c.requires.i_lt_pieces c.args.words.now c.args.cells.now _ _ c.leave_one-count.result c.leave_one-count.ensures
    c.requires.stands_beside in
    record {
      works_beside = w;
      i_lt_pieces = (c.requires.i_lt_pieces, m);
      used_in_bounds = omega arith;
    }

pub returns : goal.returns
returns c = peer_went c.args.s _ c.args.i c.requires.i_lt_pieces c.args.words.now c.args.cells.now _ _ c.leave_one-count.result c.leave_one-count.ensures _ _
    c.set_peer_count.result c.set_peer_count.ensures
