-- At k: it is among the first n, and the records before it are of lower pieces.
use Rattle.std.proofs.Common.{◌-◌}
use Rattle.memory_search.specs.Skips.{Skipped}
use Rattle.memory_search.proofs.search.skip_lower.Given as goal

abbrev pub invariant-loop-k : goal.invariant-loop-k
invariant-loop-k l = Skipped l.n l.piece l.partials l.k

abbrev pub decreases-loop-k : goal.decreases-loop-k
decreases-loop-k l = l.n - l.k
