-- `reverse_from` meets its contract. Assumes nothing.
use Prim.Native.Nat.{◌-◌}
use native.Mathlib.Omega.{arith}
use borrow.Author.Tests.{not-true, not-false}
use Rattle.model.specs.change.Changes.{reverse_from}
use Rattle.change_cursors.proofs.ScanLaws.{scan_begins, down_stops, down_passes, down_ends}
use Rattle.change_cursors.proofs.scans.reverse_from.Goals as goal

pub loop-k-init : goal.loop-k-init
loop-k-init c = scan_begins _ _ reverse_from _ c.requires.i_le_pieces

pub returns-then-not-flushed_or_filtered : goal.returns-then-not-flushed_or_filtered
returns-then-not-flushed_or_filtered c = down_stops _ _ _ c.loop-k.k c.loop-k.invariant (c.loop-k.k - 1) (omega arith) c.flushed_or_filtered.result c.flushed_or_filtered.ensures (not-true _ c.if-not-flushed_or_filtered.true-raw)

pub loop-k-preserved : goal.loop-k-preserved
loop-k-preserved c = down_passes _ _ _ c.loop-k.k c.loop-k.invariant (c.loop-k.k - 1) (omega arith) c.flushed_or_filtered.result c.flushed_or_filtered.ensures (not-false _ c.if-not-flushed_or_filtered.false-raw)

pub returns : goal.returns
returns c = down_ends _ _ _ c.loop-k.k c.loop-k.invariant (omega arith)
