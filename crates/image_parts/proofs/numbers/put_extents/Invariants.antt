-- `put_extents` meets its contract: after k turns k extents are there. Assumes nothing.
use Prim.Native.Nat.{◌+◌, ◌≤◌}
use Rattle.model.specs.image.Image.{extent_kind, number_record}
use Rattle.memory_layout.specs.Decode.{head_word}
use Rattle.image_parts.specs.Parts.{Appended}
use Rattle.image_parts.proofs.RunLaws.{run_of}
use Rattle.image_parts.proofs.numbers.put_extents.Given as goal

abbrev pub invariant-loop-k : goal.invariant-loop-k
invariant-loop-k l = (l.k ≤ l.many) × Appended l.at (run_of (number_record extent_kind) (λ j. head_word l.words (9 + j)) l.k) l.initial.bytes l.bytes l.next
