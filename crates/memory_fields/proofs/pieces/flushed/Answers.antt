-- `flushed` meets its contract. Assumes nothing.
use Rattle.memory_layout.specs.Decode.{yes?}
use Rattle.memory_fields.proofs.Fields.{flushed_read}
use borrow.Author.Rules.{rules}
use Rattle.memory_fields.proofs.pieces.flushed.Goals as goal

pub returns : goal.returns
unfolding yes?
returns c = flushed_read c.args.s c.args.cells.now c.args.i c.requires.i_lt_pieces c.piece_cell.result c.piece_cell.ensures
