-- `piece_flushed` meets its contract: the partial is closed, flushed stored, a cursor at the piece moved on. Assumes nothing.
use Rattle.memory_layout.proofs.StandingLaws.{cells_span_kept}
use Rattle.change_closing.proofs.ErasingLaws.{erased_spans}
use Rattle.change_closing.proofs.FlushLaws.{flushed}
use Rattle.change_closing.proofs.closing.piece_flushed.Goals as goal

pub set_flushed-requires : goal.set_flushed-requires
set_flushed-requires c = record {
  cells_span = (erased_spans c.args.s c.args.i c.args.words.now c.args.cells.now _ _ c.erase_download_piece.ensures c.requires.partial_beside).in_cells;
  i_lt_pieces = c.requires.i_lt_pieces;
}

pub advance_cursors-requires : goal.advance_cursors-requires
advance_cursors-requires c = let r = erased_spans c.args.s c.args.i c.args.words.now c.args.cells.now _ _ c.erase_download_piece.ensures c.requires.partial_beside in
    record {
      spans = record { in_words = r.in_words; in_cells = cells_span_kept c.args.s _ _ r.in_cells c.set_flushed.ensures.kept };
      i_lt_pieces = c.requires.i_lt_pieces;
    }

pub returns : goal.returns
returns c = flushed c.args.s c.args.i c.requires.i_lt_pieces c.args.words.now c.args.cells.now _ _ _ _ c.erase_download_piece.ensures
    c.set_flushed.ensures c.advance_cursors.ensures
