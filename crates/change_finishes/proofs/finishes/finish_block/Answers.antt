-- `finish_block` meets its contract: the block is left, or replaced, and the piece may go with it. Assumes nothing.
use mathlib.Core.Path.{refl, sym, ◌∙◌}
use native.Mathlib.Omega.{arith}
use Rattle.change_blocks.proofs.StandingLaws.{stands_there, block_places, retally_asks}
use Rattle.change_finishes.proofs.DoneLaws.{peer_fits_lem}
use Rattle.change_finishes.proofs.FinishLaws.{finish_beside, finish_few, finish_left, flush_asks, finish_kept, finish_flushed}
use Rattle.change_finishes.proofs.finishes.finish_block.Goals as goal

pub get_block-b-requires : goal.get_block-b-requires
get_block-b-requires c = let all = block_places c.args.s c.args.words.now c.args.cells.now c.args.i c.args.p c.args.j c.args.t
    (finish_beside c.args.s c.args.words.now c.args.cells.now c.args.i c.args.p c.args.j c.args.t c.args.flags c.args.finished c.requires.finish_beside) in
    record {
      spans = all.0;
      p_lt_places = all.1;
    }

pub returns-then-b : goal.returns-then-b
returns-then-b c = finish_left c.args.s _ c.args.i c.args.p c.args.j c.args.t c.args.flags c.args.finished c.args.words.now c.args.cells.now c.args.used
    c.get_block-b.result c.get_block-b.ensures c.args.has_peer c.args.peer c.if-b.true

pub retally-after-requires : goal.retally-after-requires
retally-after-requires c = let all = retally_asks c.args.s c.args.words.now c.args.cells.now c.args.i c.args.p c.args.j c.args.t c.get_block-b.result c.get_block-b.ensures _ refl
    (finish_beside c.args.s c.args.words.now c.args.cells.now c.args.i c.args.p c.args.j c.args.t c.args.flags c.args.finished c.requires.finish_beside) in
    record {
      bound = all.0;
      bound_2 = all.1;
    }

pub set_block-next-requires : goal.set_block-next-requires
set_block-next-requires c = let b = stands_there c.args.s c.args.words.now c.args.cells.now c.args.i c.args.p c.args.j c.args.t
    (finish_beside c.args.s c.args.words.now c.args.cells.now c.args.i c.args.p c.args.j c.args.t c.args.flags c.args.finished c.requires.finish_beside) in
    record {
      partial_beside = b;
      i_lt_pieces = c.requires.i_lt_pieces;
      state_bound = omega (arith, c.finished_info-x.ensures.state);
      used_in_bounds = c.requires.used_in_bounds;
    }

pub overflow_add-finished : goal.overflow_add-finished
overflow_add-finished c = let m = finish_few c.args.s c.args.words.now c.args.cells.now c.args.i c.args.p c.args.j c.args.t c.args.flags c.args.finished c.requires.finish_beside in
    omega (arith, m)

pub piece_flushed-requires : goal.piece_flushed-requires
piece_flushed-requires c = let b = flush_asks c.args.s _ c.args.i c.args.p c.args.j c.args.t c.args.flags c.args.finished c.args.words.now c.args.cells.now c.args.used
    c.get_block-b.result c.get_block-b.ensures c.args.has_peer c.args.peer c.if-b.false c.retally-after.result c.retally-after.ensures
    c.finished_info-x.result c.finished_info-x.ensures _ _ c.set_block-next.result c.set_block-next.ensures
    (peer_fits_lem c.args.has_peer c.args.peer c.ranges.peer.fits) c.requires.finish_beside in
    record {
      partial_beside = b;
      i_lt_pieces = c.requires.i_lt_pieces;
    }

pub returns-then-is_done : goal.returns-then-is_done
returns-then-is_done c = finish_flushed c.args.s _ c.args.i c.args.p c.args.j c.args.t c.args.flags c.args.finished c.args.words.now c.args.cells.now c.args.used
    c.get_block-b.result c.get_block-b.ensures c.args.has_peer c.args.peer c.if-b.false c.retally-after.result c.retally-after.ensures
    c.finished_info-x.result c.finished_info-x.ensures _ _ c.set_block-next.result c.set_block-next.ensures
    (peer_fits_lem c.args.has_peer c.args.peer c.ranges.peer.fits) (sym c.if-is_done.true ∙ c.is_done.ensures) c.usize_to_u32.result
    c.usize_to_u32.ensures _ _ c.piece_flushed.ensures

pub returns : goal.returns
returns c = finish_kept c.args.s _ c.args.i c.args.p c.args.j c.args.t c.args.flags c.args.finished c.args.words.now c.args.cells.now c.args.used
    c.get_block-b.result c.get_block-b.ensures c.args.has_peer c.args.peer c.if-b.false c.retally-after.result c.retally-after.ensures
    c.finished_info-x.result c.finished_info-x.ensures _ _ c.set_block-next.result c.set_block-next.ensures
    (peer_fits_lem c.args.has_peer c.args.peer c.ranges.peer.fits) (sym c.if-is_done.false ∙ c.is_done.ensures)
