-- `is_left` meets its contract. Assumes nothing.
use Rattle.change_state.proofs.QueueLaws.{left}
use Rattle.change_state.proofs.queues.is_left.Goals as goal

pub returns : goal.returns
returns c = left c.args.q c.args.current _ _ c.eq.ensures c.eq-2.ensures
