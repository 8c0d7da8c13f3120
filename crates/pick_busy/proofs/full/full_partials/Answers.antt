-- `full_partials` meets its contract. Assumes nothing.
use Rattle.pick_busy.proofs.FullLaws.{full_at, full_next, full_end, full_cut, full_whole}
use Rattle.pick_append.proofs.RowLaws.{Gathered, gather_start}
use Rattle.memory_queues.proofs.StandLaws.{state_range}
use lib.ListN.{length}
use native.Mathlib.Omega.{arith}
use mathlib.Core.Path.{◌≡◌}
use Prim.Native.Nat.{◌-◌}
use borrow.Author.Rules.{rules}
use Rattle.pick_busy.proofs.full.full_partials.Goals as goal

pub loop-k-init : goal.loop-k-init
loop-k-init c = (gather_start _ _ _, c.requires.rows_len.1)

pub is_full-full-requires : goal.is_full-full-requires
is_full-full-requires c = record {
  cells_span = c.requires.cells_span;
  k_bound = (omega (arith, c.requires.in_queues.few), c.requires.rows_len.0);
  k_bound_2 = (c.requires.in_queues.there _ c.loop-k-test.true, state_range _ _ _ _ c.requires.in_queues _ c.loop-k-test.true);
}

pub push-n-requires : goal.push-n-requires
push-n-requires c = (omega (arith, c.loop-k.invariant.0.few, c.requires.in_queues.few), omega (arith, c.requires.in_queues.few))

pub loop-k-preserved : goal.loop-k-preserved
loop-k-preserved c = full_next c.args.s c.args.live c.args.rows.now c.args.cells.now c.args.q c.args.bytes.now c.requires.in_queues _ _ _ c.loop-k.invariant.0 c.loop-k.invariant.1
    c.loop-k-test.true _ c.is_full-full.ensures _ c.push-n.ensures.row_after _ c.push-n.ensures.value

pub returns-then-n-gt200 : goal.returns-then-n-gt200
returns-then-n-gt200 c = full_cut c.args.s c.args.live c.args.rows.now c.args.cells.now c.args.q c.args.bytes.now c.requires.in_queues _ _
    (full_end c.args.s c.args.live c.args.rows.now c.args.cells.now c.args.q c.args.bytes.now _ _ _ c.loop-k.invariant.0 c.loop-k-test.false)
    (omega (arith, c.loop-k.invariant.0.few, c.loop-k.invariant.0.low)) c.loop-k.invariant.1 c.if-n-gt200.true

pub returns : goal.returns
returns c = full_whole c.args.s c.args.live c.args.rows.now c.args.cells.now c.args.q c.args.bytes.now c.requires.in_queues _ _
    (full_end c.args.s c.args.live c.args.rows.now c.args.cells.now c.args.q c.args.bytes.now _ _ _ c.loop-k.invariant.0 c.loop-k-test.false)
    (omega (arith, c.loop-k.invariant.0.few, c.loop-k.invariant.0.low)) c.loop-k.invariant.1 c.if-n-gt200.false
