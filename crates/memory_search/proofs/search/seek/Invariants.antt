-- At k: what the search over all gives is what it gives from k on.
use Rattle.std.proofs.Common.{◌≡◌, ◌≤◌, ◌-◌}
use Rattle.memory_records.specs.Records.{seek_from}
use Rattle.memory_search.proofs.search.seek.Given as goal

abbrev pub invariant-loop-k : goal.invariant-loop-k
invariant-loop-k l = record {
  within : l.k ≤ l.n;
  same : seek_from l.n 0 l.partials l.piece ≡ seek_from (l.n - l.k) l.k l.partials l.piece;
}
