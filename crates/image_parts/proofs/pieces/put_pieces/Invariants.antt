-- `put_pieces` meets its contract: after i turns i pieces are there. Assumes nothing.
use Prim.Native.Nat.{◌≤◌}
use Rattle.model.specs.image.Image.{piece_record}
use Rattle.memory_layout.specs.Decode.{piece_held}
use Rattle.image_parts.specs.Parts.{Appended}
use Rattle.image_parts.proofs.RunLaws.{run_of}
use Rattle.image_parts.proofs.pieces.put_pieces.Given as goal

abbrev pub invariant-loop-i : goal.invariant-loop-i
invariant-loop-i l = (l.i ≤ l.s.pieces) × Appended l.at (run_of piece_record (piece_held l.words l.cells l.s.pieces) l.i) l.initial.bytes l.bytes l.next
