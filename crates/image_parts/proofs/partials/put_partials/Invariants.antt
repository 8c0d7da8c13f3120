-- `put_partials` meets its contract: after k turns k partials are there. Assumes nothing.
use Prim.Native.Nat.{◌≤◌}
use Rattle.model.specs.image.Image.{partial_records}
use Rattle.memory_records.specs.Rows.{records_in}
use Rattle.memory_layout.specs.Decode.{record_at, partial_held}
use Rattle.image_parts.specs.Parts.{Appended}
use Rattle.image_parts.proofs.RunLaws.{run_of}
use Rattle.image_parts.proofs.partials.put_partials.Given as goal

abbrev pub invariant-loop-k : goal.invariant-loop-k
invariant-loop-k l = (l.k ≤ l.live)
    × Appended l.at (run_of partial_records (λ j. partial_held l.words l.cells l.s.pieces l.s.blocks (record_at (records_in l.live l.rows) j)) l.k) l.initial.bytes l.bytes l.next
