-- `peer_count` meets its contract. Assumes nothing.
use Rattle.memory_fields.proofs.Fields.{peer_count_read}
use borrow.Author.Rules.{rules}
use Rattle.memory_fields.proofs.pieces.peer_count.Goals as goal

pub returns : goal.returns
returns c = peer_count_read c.args.s c.args.cells.now c.args.i c.requires.i_lt_pieces c.piece_cell.result c.piece_cell.ensures
