-- `is_forced` meets its contract. Assumes nothing.
use mathlib.Core.Path.{refl}
use lib.Dec.{leb}
use Prim.Native.Nat.{◌*◌, ◌/◌}
use native.Mathlib.Omega.{arith}
use borrow.Author.Tests.{leb-true}
use borrow.Author.Rules.{rules}
use Rattle.model.proofs.base.Truths.{and_left, and_right}
use Rattle.types.specs.declared.queue.DownloadQueue.TheVariants.{Downloading}
use Rattle.memory_queues.specs.Queues.{queue_held}
use Rattle.memory_queues.proofs.PlaceLaws.{below_few}
use Rattle.pick_start.proofs.ForcedLaws.{product_small, forced_counted, forced_none}
use Rattle.pick_start.proofs.forced.is_forced.Goals as goal

pub overflow_mul-live : goal.overflow_mul-live
overflow_mul-live c = let m = product_small c.args.live c.args.s.blocks c.requires.in_queues.few c.requires.cells_span.sizes.wide in
    omega arith

pub returns-then-live-most : goal.returns-then-live-most
returns-then-live-most c = forced_none c.args.s c.args.live c.args.rows.now c.args.cells.now c.requires.in_queues c.args.peers
    (leb-true c.args.live (c.args.peers * 3 / 2) (and_left (leb c.args.live (c.args.peers * 3 / 2)) (leb (c.args.live * c.args.s.blocks) 2048) c.if-live-most.true))
    (leb-true (c.args.live * c.args.s.blocks) 2048 (and_right (leb c.args.live (c.args.peers * 3 / 2)) (leb (c.args.live * c.args.s.blocks) 2048) c.if-live-most.true))

pub overflow_mul-result : goal.overflow_mul-result
overflow_mul-result c = let few = below_few (queue_held c.args.cells.now c.args.rows.now c.args.s.pieces) Downloading c.args.live in
    let m = product_small c.count_downloading-n.result c.args.s.blocks (omega arith) c.requires.cells_span.sizes.wide in
    omega arith

pub returns : goal.returns
returns c = forced_counted c.args.s c.args.live c.args.rows.now c.args.cells.now c.requires.in_queues c.args.peers c.count_downloading-n.result _
    c.count_downloading-n.ensures refl _ refl
