-- `put_blocks` meets its contract: after j turns j blocks are there. Assumes nothing.
use Prim.Native.Nat.{◌≤◌}
use Rattle.model.specs.image.Image.{block_record}
use Rattle.memory_layout.specs.Decode.{block_held}
use Rattle.image_parts.specs.Parts.{Appended}
use Rattle.image_parts.proofs.RunLaws.{run_of}
use Rattle.image_parts.proofs.blocks.put_blocks.Given as goal

abbrev pub invariant-loop-j : goal.invariant-loop-j
invariant-loop-j l = (l.j ≤ l.many) × Appended l.at (run_of block_record (block_held l.words l.cells l.s.pieces l.s.blocks l.p) l.j) l.initial.bytes l.bytes l.next
