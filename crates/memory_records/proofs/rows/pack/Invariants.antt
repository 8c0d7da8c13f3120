-- At k: the row loop from k on over what stands makes what the whole makes.
use Rattle.std.proofs.Common.{◌≡◌, ◌≤◌, ◌-◌, length}
use Rattle.memory_records.specs.Rows.{pack_from}
use Rattle.memory_records.proofs.rows.pack.Given as goal

abbrev pub invariant-loop-k : goal.invariant-loop-k
invariant-loop-k l = record {
  within : l.k ≤ l.n;
  long : length l.partials ≡ length l.fn.partials;
  same : pack_from (l.n - l.k) l.k l.rows l.partials ≡ pack_from l.n 0 l.rows l.fn.partials;
}
