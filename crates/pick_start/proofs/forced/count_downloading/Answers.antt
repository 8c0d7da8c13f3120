-- `count_downloading` meets its contract: so far as many are counted as the queue has. Assumes nothing.
use mathlib.Core.Path.{◌≡◌, ap, ◌∙◌}
use Prim.Native.Nat.{ℕ, ◌-◌, ◌≤◌}
use native.Mathlib.Omega.{arith}
use borrow.Author.Rules.{rules}
use Rattle.types.specs.declared.queue.DownloadQueue.TheVariants.{Downloading}
use Rattle.model.specs.Lists.{len}
use Rattle.memory_queues.specs.Queues.{queue_held, places_below}
use Rattle.memory_queues.proofs.PlaceLaws.{below_few}
use Rattle.memory_queues.proofs.StandLaws.{state_range}
use Rattle.pick_start.proofs.ForcedLaws.{counted_none, counted_next}
use Rattle.pick_start.proofs.forced.count_downloading.Goals as goal

pub loop-k-init : goal.loop-k-init
loop-k-init c = (omega arith, counted_none _)

pub queue_of-queue-requires : goal.queue_of-queue-requires
queue_of-queue-requires c = record {
  cells_span = c.requires.cells_span;
  k_bound = (omega (arith, c.requires.in_queues.few), c.requires.rows_len);
  k_bound_2 = (c.requires.in_queues.there _ c.loop-k-test.true, state_range _ _ _ _ c.requires.in_queues _ c.loop-k-test.true);
}

pub counted-n-requires : goal.counted-n-requires
counted-n-requires c = omega (arith, c.loop-k.invariant.0, c.loop-k.invariant.1, below_few (queue_held c.args.cells.now c.args.rows.now c.args.s.pieces) Downloading c.loop-k.k, c.requires.in_queues.few)

pub loop-k-preserved : goal.loop-k-preserved
loop-k-preserved c = (omega arith, counted_next _ _ c.loop-k.k _ _ c.loop-k.invariant.1 c.queue_of-queue.ensures c.counted-n.ensures)

pub returns : goal.returns
returns c = let e : c.loop-k.k ≡ c.args.live = omega arith in
    c.loop-k.invariant.1 ∙ ap (λ (k : ℕ). len (places_below (queue_held c.args.cells.now c.args.rows.now c.args.s.pieces) Downloading k)) e
