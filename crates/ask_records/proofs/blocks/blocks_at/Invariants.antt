-- `blocks_at` meets its contract. Assumes nothing.
use Prim.Native.Nat.{◌-◌, ◌≤◌}
use Rattle.ask_records.proofs.BlockRecords.{block_row}
use Rattle.ask_records.proofs.RecordLaws.{lists_start, lists_next, lists_end}
use Rattle.ask_records.specs.Records.{block_read, Lists}
use Rattle.memory_layout.specs.Decode.{block_held}
use Rattle.model.specs.ask.Questions.{block_info}
use mathlib.Core.Path.{refl}
use native.Mathlib.Omega.{arith}
use borrow.Author.Rules.{rules}
use Rattle.ask_records.proofs.blocks.blocks_at.Given as goal

abbrev pub invariant-loop-j : goal.invariant-loop-j
invariant-loop-j l = (l.j ≤ l.many) × Lists 4 block_read (λ k. block_info (block_held l.words l.cells l.s.pieces l.s.blocks l.p k)) l.j l.initial.out l.out
