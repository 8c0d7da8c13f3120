-- `update_piece_state` meets its contract. Assumes nothing.
use Rattle.change_state.proofs.MoveLaws.{state_updated}
use Rattle.change_state.proofs.moves.update_piece_state.Goals as goal

pub returns : goal.returns
returns c = state_updated c.args.s _ c.args.i c.args.t c.args.words.now c.args.cells.now c.args.used _ _ c.move_state.result c.queue_at-current.result
    c.priority-wanted.result c.new_state-q.result c.queue_at-current.ensures c.priority-wanted.ensures c.new_state-q.ensures
    c.move_state.ensures
