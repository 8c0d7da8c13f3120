-- `mark_as_finished` meets its contract: a block of the partial found, or of a piece that is opened unless it is flushed.
-- Assumes nothing.
use native.Mathlib.Omega.{arith}
use Rattle.types.specs.Peer.{named_peer}
use Rattle.model.specs.change.Changes.{mark_finished_in, mark_as_finished}
use Rattle.change_finishes.specs.Finishing.{FinishAt}
use Rattle.change_returns.proofs.WholeLaws.{standing_asks, whole_found}
use Rattle.change_vacant.proofs.VacantLaws.{rows_vacant, finished_opened}
use Rattle.change_marks.proofs.WholeLaws.{finish_here, finish_beside}
use Rattle.change_marks.proofs.finishes.mark_as_finished.Goals as goal

pub returns-in_default : goal.returns-in_default
returns-in_default c = let v = rows_vacant c.args.s c.args.live c.args.rows.now c.args.counts.now c.args.words.now c.args.cells.now c.requires.rows_stand c.args.i
    c.partial_of.result c.in_default.is c.partial_of.ensures in
    let r = finished_opened c.args.s c.args.live c.args.rows.now c.args.words.now c.args.cells.now c.args.i v c.args.draws.now c.args.j c.args.has_peer
    c.args.peer _ _ _ _ _ c.open_arrived-m.ensures.change in
    record {
      change = r;
      room = c.open_arrived-m.ensures.room;
    }

pub standing_in-d-requires : goal.standing_in-d-requires
standing_in-d-requires c = let all = standing_asks c.args.s c.args.live c.args.rows.now c.args.counts.now c.args.words.now c.args.cells.now c.requires.rows_stand c.args.i _
    c.partial_of.result c.in-Some.is c.partial_of.ensures c.requires.i_lt_pieces.0 in
    record {
      tallies_beside = all.0;
      i_lt_pieces = all.1.0;
      rows_len = all.1.1;
    }

pub finish_block-requires : goal.finish_block-requires
finish_block-requires c = let b = finish_beside c.args.s c.args.live c.args.rows.now c.args.counts.now c.args.words.now c.args.cells.now c.requires.rows_stand c.args.i _
    c.partial_of.result c.in-Some.is c.partial_of.ensures c.standing_in-d.result c.standing_in-d.ensures c.args.j
    c.requires.i_lt_pieces.1 in
    record {
      finish_beside = b;
      i_lt_pieces = c.requires.i_lt_pieces.0;
      used_in_bounds = omega arith;
    }

pub returns : goal.returns
unfolding mark_as_finished
returns c = let h = finish_here c.args.s c.args.live c.args.rows.now c.args.counts.now c.args.words.now c.args.cells.now c.requires.rows_stand c.args.i _
    c.partial_of.result c.in-Some.is c.partial_of.ensures c.standing_in-d.result c.standing_in-d.ensures c.args.j c.requires.i_lt_pieces.1 in
    let all = whole_found c.args.s c.args.live c.args.rows.now c.args.counts.now c.args.words.now c.args.cells.now c.requires.rows_stand c.args.i
    (λ found w. mark_finished_in c.args.draws.now c.args.i found c.args.j (named_peer c.args.has_peer c.args.peer) w)
    _ c.partial_of.result c.in-Some.is c.partial_of.ensures _ _ c.finish_block.result.used
    (λ records k. FinishAt c.args.s records c.args.words.now c.args.cells.now c.args.i c.standing_in-d.result.place c.args.j c.standing_in-d.result.tally c.standing_in-d.result.flags c.standing_in-d.result.finished k) h
    c.finish_block.result.edit c.finish_block.ensures in
    record {
      change = all.0;
      room = all.1;
    }
