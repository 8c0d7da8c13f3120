-- `erase_download_piece` meets its contract: one partial less is counted, then the state stored. Assumes nothing.
use Rattle.change_closing.proofs.ErasingLaws.{some_partial, erased}
use Rattle.change_closing.proofs.closing.erase_download_piece.Goals as goal

pub drop_partial-requires : goal.drop_partial-requires
drop_partial-requires c = record {
  words_span = c.requires.partial_beside.has.works.bounds.spans.in_words;
  nonzero = some_partial c.args.s c.args.i c.args.words.now c.args.cells.now c.requires.partial_beside;
}

pub returns : goal.returns
returns c = erased c.args.s c.args.i c.requires.i_lt_pieces c.args.words.now c.args.cells.now _ _ c.queue_number-n.result c.queue_number-n.ensures.0
    c.drop_partial.ensures c.set_state.ensures
