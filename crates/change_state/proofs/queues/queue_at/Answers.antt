-- `queue_at` meets its contract. Assumes nothing.
use Rattle.change_state.proofs.QueueLaws.{queue_read}
use Rattle.change_state.proofs.queues.queue_at.Goals as goal

pub returns : goal.returns
returns c = queue_read c.args.s c.args.cells.now c.args.i c.requires.i_lt_pieces c.queue_from.result c.piece_cell-v.result
    c.queue_from.ensures c.piece_cell-v.ensures
