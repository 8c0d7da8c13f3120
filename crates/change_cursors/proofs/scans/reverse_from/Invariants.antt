-- `reverse_from` meets its contract. Assumes nothing.
use Rattle.model.specs.change.Changes.{reverse_from}
use Rattle.change_cursors.proofs.ScanLaws.{Scanned}
use Rattle.change_cursors.proofs.scans.reverse_from.Given as goal

abbrev pub invariant-loop-k : goal.invariant-loop-k
invariant-loop-k l = Scanned l.s l.cells reverse_from l.fn.i l.k
