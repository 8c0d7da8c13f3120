-- `state` meets its contract: the state is the one that its cell means. Assumes nothing.
use Rattle.memory_fields.proofs.Fields.{state_read}
use borrow.Author.Rules.{rules}
use Rattle.memory_fields.proofs.pieces.state.Goals as goal

pub returns : goal.returns
returns c = state_read c.args.s c.args.cells.now c.args.i c.requires.i_lt_pieces c.state_number.result c.piece_cell-v.result
    c.state_number.ensures c.piece_cell-v.ensures
