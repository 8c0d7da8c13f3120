-- `all_flushed` meets its contract: what is left of the range is the whole of it. Assumes nothing.
use Prim.Native.Nat.{◌-◌}
use native.Mathlib.Omega.{arith}
use borrow.Author.Rules.{rules}
use Rattle.pick_extents.proofs.ExtentLaws.{FlushedLeft, flushed_start, flushed_next, flushed_stop, flushed-end}
use Rattle.pick_extents.proofs.all_flushed.Goals as goal

pub loop-i-init : goal.loop-i-init
loop-i-init c = flushed_start c.args.s c.args.cells.now c.args.first c.args.end

pub flushed-requires : goal.flushed-requires
flushed-requires c = record {
  cells_span = c.requires.cells_span;
  i_lt_pieces = omega arith;
}

pub returns-then-not-flushed : goal.returns-then-not-flushed
returns-then-not-flushed c = flushed_stop c.loop-i.invariant (omega arith) c.flushed.result c.flushed.ensures c.if-not-flushed.true-raw

pub loop-i-smaller : goal.loop-i-smaller
loop-i-smaller c = omega arith

pub loop-i-preserved : goal.loop-i-preserved
loop-i-preserved c = flushed_next c.loop-i.invariant (omega arith) c.flushed.result c.flushed.ensures c.if-not-flushed.false-raw

pub returns : goal.returns
returns c = flushed-end c.loop-i.invariant (omega arith)
