-- `download_queues` meets its contract: after k turns the rows of places hold the first k partials. Assumes nothing.
use borrow.Author.Rules.{rules}
use mathlib.Core.Path.{◌≡◌}
use Prim.Native.Nat.{◌≤◌, ◌<◌, ◌-◌}
use native.Mathlib.Omega.{arith}
use Rattle.types.specs.Queue.{queue_number}
use Rattle.memory_queues.specs.Queues.{queue_held, Entered}
use Rattle.memory_queues.proofs.EnterLaws.{entered_start, row_room, entered_next}
use Rattle.memory_queues.proofs.StandLaws.{state_range}
use Rattle.memory_queues.proofs.FilledLaws.{filled}
use Rattle.memory_queues.proofs.download_queues.Given as goal

abbrev pub invariant-loop-k : goal.invariant-loop-k
invariant-loop-k l = (l.k ≤ l.live) × Entered (queue_held l.cells l.rows l.s.pieces) l.k l.queues l.sizes
