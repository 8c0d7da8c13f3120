-- `no_peers` meets its contract. Assumes nothing.
use Prim.Native.Nat.{◌-◌, ◌≤◌}
use Rattle.ask_records.proofs.BlockRecords.{no_peer_row}
use Rattle.ask_records.proofs.RecordLaws.{lists_start, lists_next, lists_end}
use Rattle.ask_records.specs.Records.{peer_read, Lists}
use mathlib.Core.List.{[], ◌∷◌}
use mathlib.Core.Option.{none}
use mathlib.Core.Path.{refl}
use native.Mathlib.Omega.{arith}
use borrow.Author.Rules.{rules}
use Rattle.ask_records.proofs.peers.no_peers.Given as goal

abbrev pub invariant-loop-j : goal.invariant-loop-j
invariant-loop-j l = (l.j ≤ l.many) × Lists 2 peer_read (λ k. none ∷ []) l.j l.initial.out l.out
