-- `pad_bytes` meets its contract. Assumes nothing.
use Rattle.memory_fields.proofs.Fields.{pad_bytes_read}
use borrow.Author.Rules.{rules}
use Rattle.memory_fields.proofs.pieces.pad_bytes.Goals as goal

pub returns : goal.returns
returns c = pad_bytes_read c.args.s c.args.words.now c.args.i c.requires.i_lt_pieces c.piece_word.result c.piece_word.ensures
