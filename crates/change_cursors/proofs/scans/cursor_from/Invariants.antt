-- `cursor_from` meets its contract. Assumes nothing.
use Rattle.model.specs.change.Changes.{cursor_from}
use Rattle.change_cursors.proofs.ScanLaws.{Scanned}
use Rattle.change_cursors.proofs.scans.cursor_from.Given as goal

abbrev pub invariant-loop-k : goal.invariant-loop-k
invariant-loop-k l = Scanned l.s l.cells cursor_from l.fn.i l.k
