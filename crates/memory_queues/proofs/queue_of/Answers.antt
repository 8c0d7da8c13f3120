-- `queue_of` meets its contract: the reverse states stand five numbers above the plain ones. Assumes nothing.
use borrow.Author.Rules.{rules}
use Rattle.memory_queues.proofs.StandLaws.{queue_plain}
use Rattle.memory_queues.proofs.queue_of.Goals as goal

pub returns : goal.returns
returns c = queue_plain c.args.s c.args.rows.now c.args.cells.now c.args.k c.requires.k_bound_2.1 _ _
    c.u32_to_usize-piece.ensures c.piece_cell-state.ensures _ c.u16_to_usize.ensures
