-- `mark_as_writing` meets its contract: a block of the partial found, or of a piece that is opened unless it is flushed.
-- Assumes nothing.
use native.Mathlib.Omega.{arith}
use Rattle.types.specs.Peer.{named_peer}
use Rattle.model.specs.change.Changes.{mark_writing_in, mark_as_writing}
use Rattle.change_returns.proofs.WholeLaws.{kept_room, standing_asks, tally_beside}
use Rattle.change_vacant.proofs.VacantLaws.{rows_vacant, writing_opened}
use Rattle.change_marks.proofs.WholeLaws.{marked_found}
use Rattle.change_marks.proofs.receipts.mark_as_writing.Goals as goal

pub returns-in_default : goal.returns-in_default
returns-in_default c = let v = rows_vacant c.args.s c.args.live c.args.rows.now c.args.counts.now c.args.words.now c.args.cells.now c.requires.rows_stand c.args.i
    c.partial_of.result c.in_default.is c.partial_of.ensures in
    let r = writing_opened c.args.s c.args.live c.args.rows.now c.args.words.now c.args.cells.now c.args.i v c.args.draws.now c.args.j c.args.has_peer
    c.args.peer _ _ _ _ _ c.open_arrived.ensures.change in
    record {
      change = r;
      room = c.open_arrived.ensures.room;
    }

pub standing_in-d-requires : goal.standing_in-d-requires
standing_in-d-requires c = let all = standing_asks c.args.s c.args.live c.args.rows.now c.args.counts.now c.args.words.now c.args.cells.now c.requires.rows_stand c.args.i _
    c.partial_of.result c.in-Some.is c.partial_of.ensures c.requires.i_lt_pieces.0 in
    record {
      tallies_beside = all.0;
      i_lt_pieces = all.1.0;
      rows_len = all.1.1;
    }

pub write_block-m-requires : goal.write_block-m-requires
write_block-m-requires c = let b = tally_beside c.args.s c.args.live c.args.rows.now c.args.counts.now c.args.words.now c.args.cells.now c.requires.rows_stand c.args.i _
    c.partial_of.result c.in-Some.is c.partial_of.ensures c.standing_in-d.result c.standing_in-d.ensures c.args.j
    c.requires.i_lt_pieces.1 in
    record {
      tally_beside = b;
      i_lt_pieces = c.requires.i_lt_pieces.0;
      used_in_bounds = omega arith;
    }

pub returns : goal.returns
unfolding mark_as_writing
returns c = let r = marked_found c.args.s c.args.live c.args.rows.now c.args.counts.now c.args.words.now c.args.cells.now c.requires.rows_stand c.args.i _
    c.partial_of.result c.in-Some.is c.partial_of.ensures c.standing_in-d.result c.standing_in-d.ensures c.args.j
    c.requires.i_lt_pieces.1
    (λ found w. mark_writing_in c.args.draws.now c.args.i found c.args.j (named_peer c.args.has_peer c.args.peer) w) _ _
    c.write_block-m.result c.write_block-m.ensures.marks in
    record {
      change = r;
      room = kept_room c.args.s c.args.live c.args.rows.now c.args.counts.now c.args.words.now c.args.cells.now c.requires.rows_stand;
    }
