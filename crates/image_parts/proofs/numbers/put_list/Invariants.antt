-- `put_list` meets its contract: after k turns k places are there. Assumes nothing.
use Prim.Native.Nat.{◌≤◌}
use Rattle.model.specs.image.Image.{place_kind, number_record}
use Rattle.list_entries.specs.Words.{listed_piece}
use Rattle.memory_layout.specs.Decode.{piece_word}
use Rattle.image_parts.specs.Parts.{Appended}
use Rattle.image_parts.proofs.RunLaws.{run_of}
use Rattle.image_parts.proofs.numbers.put_list.Given as goal

abbrev pub invariant-loop-k : goal.invariant-loop-k
invariant-loop-k l = (l.k ≤ l.many) × Appended l.at (run_of (number_record place_kind) (λ j. listed_piece (piece_word l.words l.s.pieces 1 j)) l.k) l.initial.bytes l.bytes l.next
