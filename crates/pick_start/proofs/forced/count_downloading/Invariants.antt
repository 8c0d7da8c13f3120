-- `count_downloading` meets its contract: so far as many are counted as the queue has. Assumes nothing.
use mathlib.Core.Path.{◌≡◌, ap, ◌∙◌}
use Prim.Native.Nat.{ℕ, ◌-◌, ◌≤◌}
use native.Mathlib.Omega.{arith}
use borrow.Author.Rules.{rules}
use Rattle.types.specs.declared.queue.DownloadQueue.TheVariants.{Downloading}
use Rattle.model.specs.Lists.{len}
use Rattle.memory_queues.specs.Queues.{queue_held, places_below}
use Rattle.memory_queues.proofs.PlaceLaws.{below_few}
use Rattle.memory_queues.proofs.StandLaws.{state_range}
use Rattle.pick_start.proofs.ForcedLaws.{counted_none, counted_next}
use Rattle.pick_start.proofs.forced.count_downloading.Given as goal

abbrev pub invariant-loop-k : goal.invariant-loop-k
invariant-loop-k l = (l.k ≤ l.live) × (l.n ≡ len (places_below (queue_held l.cells l.rows l.s.pieces) Downloading l.k))
