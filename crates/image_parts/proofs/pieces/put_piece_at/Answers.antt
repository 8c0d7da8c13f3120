-- `put_piece_at` meets its contract. Assumes nothing.
use mathlib.Core.Path.{◌∙◌}
use Rattle.image_parts.proofs.RecordMeanings.{piece_put}
use Rattle.image_parts.proofs.pieces.put_piece_at.Goals as goal

pub returns : goal.returns
returns c = piece_put _ _ _ _ _ _ _ _ _ _ _ _ c.requires.spans.1 c.requires.i_lt_pieces.0
    (c.u16_to_u64-peer_count.ensures ∙ c.piece_cell.ensures)
    (c.u16_to_u64-state.ensures ∙ c.piece_cell-2.ensures)
    (c.u16_to_u64-priority.ensures ∙ c.piece_cell-3.ensures)
    (c.u16_to_u64-flushed.ensures ∙ c.piece_cell-4.ensures)
    c.piece_word-pad_bytes.ensures c.put_piece.ensures
