-- `take_blocks` meets its contract. The loop's invariant: the numbers of so many blocks are taken.
use Prim.Native.Nat.{◌+◌, ◌≤◌}
use Rattle.image_lay.specs.Laid.{fields_at, Laid}
use Rattle.image_lay.specs.Quads.{Filled}
use Rattle.image_lay_blocks.specs.Quads.{BlockQuads}
use Rattle.image_lay_blocks.proofs.quads.take_blocks.Given as goal

abbrev pub invariant-loop-j : goal.invariant-loop-j
invariant-loop-j l = (l.j ≤ l.many) × Laid l.v l.j (fields_at (l.start + 5) 13 8 l.bytes) l.initial.words l.words × Filled l.j (BlockQuads l.start l.bytes) l.initial.quads l.quads
