-- At k: the row loop from k on over what stands makes what the whole makes.
use Rattle.std.proofs.Common.{◌≡◌, ◌≤◌, ◌-◌, length}
use Rattle.memory_records.specs.Rows.{unpack_from}
use Rattle.memory_records.proofs.rows.unpack.Given as goal

abbrev pub invariant-loop-k : goal.invariant-loop-k
invariant-loop-k l = record {
  within : l.k ≤ l.n;
  long : length l.rows ≡ 1536;
  same : unpack_from (l.n - l.k) l.k l.partials l.rows ≡ unpack_from l.n 0 l.partials l.fn.rows;
}
