-- `places_ok` meets its contract: after k records, all passed, the marks are their places. Assumes nothing.
use Prim.Native.Nat.{◌≤◌, ◌-◌}
use native.Mathlib.Omega.{arith}
use mathlib.Core.Path.{◌≡◌}
use Rattle.memory_records.specs.Rows.{records_in}
use Rattle.memory_layout.specs.Offsets.{places_for}
use Rattle.memory_layout.specs.Decode.{pieces_on}
use Rattle.memory_layout.proofs.OffsetLaws.{places_min}
use Rattle.check_partials.proofs.PlaceLaws.{live_place, Marked, marked_start, marked_end, marked_beyond, marked_twice, marked_next}
use Rattle.check_partials.proofs.PlaceLaws.{places_is, places_many}
use borrow.Author.Rules.{rules}
use Rattle.check_partials.proofs.places.places_ok.Given as goal

abbrev pub invariant-loop-k : goal.invariant-loop-k
invariant-loop-k l = (l.k ≤ l.live) × (l.many ≡ places_for (pieces_on l.words)) × (l.many ≤ 512)
    × Marked (records_in l.live l.rows) (pieces_on l.words) l.marks l.k
