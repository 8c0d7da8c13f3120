-- `mark_as_downloading` meets its contract: a block of the partial found, or of a piece without one, which is opened. Assumes nothing.
use native.Mathlib.Omega.{arith}
use Rattle.types.specs.Peer.{named_peer}
use Rattle.model.specs.change.Changes.{reverse_asked, affinity_asked, mark_downloading_in, mark_as_downloading}
use Rattle.change_returns.proofs.WholeLaws.{kept_room, standing_asks}
use Rattle.change_vacant.proofs.VacantLaws.{vacant_room, rows_vacant, downloading_opened}
use Rattle.change_marks.proofs.WholeLaws.{request_beside, marked_found}
use Rattle.change_marks.proofs.downloads.mark_as_downloading.Goals as goal

pub open_mark-requires : goal.open_mark-requires
open_mark-requires c = let v = rows_vacant c.args.s c.args.live c.args.rows.now c.args.counts.now c.args.words.now c.args.cells.now c.requires.rows_stand c.args.i
    c.partial_of.result c.in_default.is c.partial_of.ensures in
    let room = vacant_room c.args.s c.args.live c.args.rows.now c.args.words.now c.args.cells.now c.args.i v c.requires.i_lt_pieces.0 c.requires.i_value
    c.requires.i_value_2 in
    record {
      rows_vacant = v;
      i_lt_pieces = (c.requires.i_lt_pieces.0, (c.requires.i_lt_pieces.1, room));
      state_bound = omega arith;
      min_draws_in_bounds = c.requires.min_draws_in_bounds;
    }

pub returns-in_default : goal.returns-in_default
unfolding reverse_asked affinity_asked
returns-in_default c = let v = rows_vacant c.args.s c.args.live c.args.rows.now c.args.counts.now c.args.words.now c.args.cells.now c.requires.rows_stand c.args.i
    c.partial_of.result c.in_default.is c.partial_of.ensures in
    let r = downloading_opened c.args.s c.args.live c.args.rows.now c.args.words.now c.args.cells.now c.args.i v c.args.draws.now c.args.j c.args.has_peer
    c.args.peer _ _ _ _ _ c.args.options.0 c.contains-back.result c.contains-affinity.result c.first_state-q.result
    c.contains-back.ensures c.contains-affinity.ensures c.first_state-q.ensures c.open_mark.ensures.change in
    record {
      change = r;
      room = c.open_mark.ensures.room;
    }

pub standing_in-d-requires : goal.standing_in-d-requires
standing_in-d-requires c = let all = standing_asks c.args.s c.args.live c.args.rows.now c.args.counts.now c.args.words.now c.args.cells.now c.requires.rows_stand c.args.i _
    c.partial_of.result c.in-Some.is c.partial_of.ensures c.requires.i_lt_pieces.0 in
    record {
      tallies_beside = all.0;
      i_lt_pieces = all.1.0;
      rows_len = all.1.1;
    }

pub request_block-m-requires : goal.request_block-m-requires
request_block-m-requires c = let b = request_beside c.args.s c.args.live c.args.rows.now c.args.counts.now c.args.words.now c.args.cells.now c.requires.rows_stand c.args.i _
    c.partial_of.result c.in-Some.is c.partial_of.ensures c.standing_in-d.result c.standing_in-d.ensures c.args.j
    c.requires.i_lt_pieces.1 in
    record {
      request_beside = b;
      i_lt_pieces = c.requires.i_lt_pieces.0;
      used_in_bounds = omega (arith, c.requires.min_draws_in_bounds);
    }

pub returns : goal.returns
unfolding mark_as_downloading reverse_asked
returns c = let r = marked_found c.args.s c.args.live c.args.rows.now c.args.counts.now c.args.words.now c.args.cells.now c.requires.rows_stand c.args.i _
    c.partial_of.result c.in-Some.is c.partial_of.ensures c.standing_in-d.result c.standing_in-d.ensures c.args.j
    c.requires.i_lt_pieces.1
    (λ found w. mark_downloading_in c.args.draws.now c.args.i found c.args.j (named_peer c.args.has_peer c.args.peer) c.args.options.0 w) _ _
    c.request_block-m.result (c.request_block-m.ensures.marks c.args.options.0 c.contains-back.ensures) in
    record {
      change = r;
      room = kept_room c.args.s c.args.live c.args.rows.now c.args.counts.now c.args.words.now c.args.cells.now c.requires.rows_stand;
    }
