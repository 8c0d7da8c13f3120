-- `scan_partials` meets its contract. Assumes nothing.
use Rattle.pick_scan.proofs.FoundLaws.{Scanning, scan_start, counted_few, scan_next, scan_end}
use Rattle.memory_rows.specs.Lookup.{picker_in}
use Rattle.memory_rows.proofs.RisingLaws.{live_number}
use Rattle.ask_picker.proofs.AskedLaws.{asked_rows, asked_queues}
use Rattle.pick_state.specs.Requests.{request_of}
use native.Mathlib.Omega.{arith}
use Prim.Native.Nat.{◌-◌}
use borrow.Author.Rules.{rules}
use Rattle.pick_scan.proofs.found.scan_partials.Given as goal

abbrev pub invariant-loop-k : goal.invariant-loop-k
invariant-loop-k l = Scanning (request_of l.q l.bytes) (picker_in l.live l.rows l.words l.cells) l.live l.k l.n l.downloading l.places
