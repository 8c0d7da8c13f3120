-- `aq_blocks_for_piece` asks what `blocks_for_piece` asks, and hands its answer on as a kind and a number. Assumes nothing.
use borrow.Author.Rules.{rules}
use Rattle.link_piece_questions.proofs.records.aq_blocks_for_piece.Goals as goal

pub returns : goal.returns
returns c = rw c.from.ensures (record {
  result_after = c.blocks_for_piece.ensures.result_after;
  written = c.blocks_for_piece.ensures.written;
})
