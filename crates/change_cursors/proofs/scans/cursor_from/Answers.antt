-- `cursor_from` meets its contract. Assumes nothing.
use native.Mathlib.Omega.{arith}
use borrow.Author.Tests.{not-true, not-false}
use Rattle.model.specs.change.Changes.{cursor_from}
use Rattle.change_cursors.proofs.ScanLaws.{scan_begins, up_stops, up_passes, up_ends}
use Rattle.change_cursors.proofs.scans.cursor_from.Goals as goal

pub loop-k-init : goal.loop-k-init
loop-k-init c = scan_begins _ _ cursor_from _ c.requires.i_le_pieces

pub returns-then-not-flushed_or_filtered : goal.returns-then-not-flushed_or_filtered
returns-then-not-flushed_or_filtered c = up_stops _ _ _ c.loop-k.k c.loop-k.invariant (omega arith) c.flushed_or_filtered.result c.flushed_or_filtered.ensures (not-true _ c.if-not-flushed_or_filtered.true-raw)

pub loop-k-preserved : goal.loop-k-preserved
loop-k-preserved c = up_passes _ _ _ c.loop-k.k c.loop-k.invariant (omega arith) c.flushed_or_filtered.result c.flushed_or_filtered.ensures (not-false _ c.if-not-flushed_or_filtered.false-raw)

pub returns : goal.returns
returns c = up_ends _ _ _ c.loop-k.k c.loop-k.invariant (omega arith)
