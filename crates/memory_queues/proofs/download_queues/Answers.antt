-- `download_queues` meets its contract: after k turns the rows of places hold the first k partials. Assumes nothing.
use borrow.Author.Rules.{rules}
use mathlib.Core.Path.{◌≡◌}
use Prim.Native.Nat.{◌≤◌, ◌<◌, ◌-◌}
use native.Mathlib.Omega.{arith}
use Rattle.types.specs.Queue.{queue_number}
use Rattle.memory_queues.specs.Queues.{queue_held, Entered}
use Rattle.memory_queues.proofs.EnterLaws.{entered_start, row_room, entered_next}
use Rattle.memory_queues.proofs.StandLaws.{state_range}
use Rattle.memory_queues.proofs.FilledLaws.{filled}
use Rattle.memory_queues.proofs.download_queues.Goals as goal

pub loop-k-init : goal.loop-k-init
loop-k-init c = (omega arith, entered_start _ _ c.requires.shaped)

pub queue_of-q-requires : goal.queue_of-q-requires
queue_of-q-requires c = let h : c.loop-k.k < c.args.live = omega arith in record {
  cells_span = c.requires.cells_span;
  k_bound = (omega (arith, c.requires.in_queues.few), c.requires.rows_len);
  k_bound_2 = (c.requires.in_queues.there c.loop-k.k h, state_range c.args.s c.args.live c.args.rows.now c.args.cells.now c.requires.in_queues c.loop-k.k h);
}

pub enter-requires : goal.enter-requires
enter-requires c = let h : c.loop-k.k < c.args.live = omega arith in
    let f = queue_held c.args.cells.now c.args.rows.now c.args.s.pieces in
    let e : c.queue_of-q.result ≡ queue_number (f c.loop-k.k) = c.queue_of-q.ensures in
    let q : c.queue_of-q.result < 4 = omega (arith, e, c.requires.in_queues.queue c.loop-k.k h) in
    let m : c.loop-k.k < 512 = omega (arith, h, c.requires.in_queues.few) in
    record {
      q_bound = q;
      q_bound_2 = (row_room f c.loop-k.k _ c.loop-k.queues c.loop-k.sizes c.loop-k.invariant.1 e q m, m);
    }

pub loop-k-preserved : goal.loop-k-preserved
loop-k-preserved c = let h : c.loop-k.k < c.args.live = omega arith in
    let f = queue_held c.args.cells.now c.args.rows.now c.args.s.pieces in
    let e : c.queue_of-q.result ≡ queue_number (f c.loop-k.k) = c.queue_of-q.ensures in
    let q : c.queue_of-q.result < 4 = omega (arith, e, c.requires.in_queues.queue c.loop-k.k h) in
    let m : c.loop-k.k < 512 = omega (arith, h, c.requires.in_queues.few) in
    (omega arith, entered_next f c.loop-k.k _ c.loop-k.queues c.loop-k.sizes c.loop-k.invariant.1 e q m _ _ c.enter.ensures.queues_after c.enter.ensures.sizes_after)

pub returns : goal.returns
returns c = filled c.args.s c.args.live c.args.rows.now c.args.cells.now c.requires.in_queues c.loop-k.queues c.loop-k.sizes c.loop-k.k c.loop-k.invariant.1 (omega arith)
