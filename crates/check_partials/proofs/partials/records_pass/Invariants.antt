-- `records_pass` meets its contract: after k records, all passed, the counts are those of the first k. Assumes nothing.
use Prim.Native.Nat.{◌≤◌, ◌-◌}
use mathlib.Core.Path.{◌≡◌, sym, ◌∙◌}
use native.Mathlib.Omega.{arith}
use lib.ListN.{length}
use borrow.Author.Tests.{not-true, not-false}
use Rattle.memory_records.specs.Rows.{records_in}
use Rattle.memory_layout.proofs.OffsetLaws.{places_min}
use Rattle.check_partials.specs.Records.{Columns}
use mathlib.Core.Bool.{true≢false}
use Rattle.check_partials.proofs.GoodLaws.{index_below}
use Rattle.check_partials.proofs.StoreLaws.{columns_turn, columns_end, columns_start}
use Rattle.check_partials.proofs.PlaceLaws.{turn_is, turn_index, turn_place, turn_good}
use Rattle.check_partials.proofs.PassLaws.{Passing, pass_start, pass_end, pass_falls, pass_bad, pass_next}
use borrow.Author.Rules.{rules}
use Rattle.check_partials.proofs.partials.records_pass.Given as goal

abbrev pub invariant-loop-k : goal.invariant-loop-k
invariant-loop-k l = (l.k ≤ l.live)
    × Passing (records_in l.live l.rows) l.words l.cells l.s.pieces l.s.blocks l.lo l.k × (length l.counts ≡ 1536)
    × Columns (records_in l.live l.rows) l.words l.cells l.s.pieces l.s.blocks l.k l.counts
