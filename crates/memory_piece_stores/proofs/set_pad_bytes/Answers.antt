-- `set_pad_bytes` meets its contract. Assumes nothing.
use Rattle.memory_piece_stores.proofs.FieldLaws.{pad_bytes_set}
use borrow.Author.Rules.{rules}
use Rattle.memory_piece_stores.proofs.set_pad_bytes.Goals as goal

pub returns : goal.returns
returns c = pad_bytes_set c.args.s c.args.words.now _ c.requires.words_span c.args.i c.args.v c.requires.i_lt_pieces c.set_piece_word.ensures
