-- `priority` meets its contract. Assumes nothing.
use Rattle.memory_fields.proofs.Fields.{priority_read}
use borrow.Author.Rules.{rules}
use Rattle.memory_fields.proofs.pieces.priority.Goals as goal

pub returns : goal.returns
returns c = priority_read c.args.s c.args.cells.now c.args.i c.requires.i_lt_pieces c.piece_cell.result c.piece_cell.ensures
