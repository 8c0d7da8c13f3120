-- At k: what the search over all gives is what it gives from k on.
use Rattle.std.proofs.Common.{◌≡◌, ◌≤◌, ◌-◌}
use Rattle.memory_records.specs.Records.{above_from}
use Rattle.memory_search.proofs.search.position.Given as goal

abbrev pub invariant-loop-k : goal.invariant-loop-k
invariant-loop-k l = record {
  within : l.k ≤ l.n;
  same : above_from l.n 0 l.partials l.piece ≡ above_from (l.n - l.k) l.k l.partials l.piece;
}
