-- `queue_from` meets its contract. Assumes nothing.
use native.Mathlib.Omega.{arith}
use Rattle.change_state.proofs.QueueLaws.{queue_past, queue_named}
use Rattle.change_state.proofs.queues.queue_from.Goals as goal

pub returns-in_default : goal.returns-in_default
returns-in_default c = queue_past c.args.v (omega (arith, c.in_default.ensures))

pub returns : goal.returns
returns c = rw (c.unwrap_or.ensures, c.try_from-2.ensures, ← c.in-Ok.ensures.1) (queue_named c.in-Ok.n _)
