-- `take_pieces` meets its contract. The loop's invariant: the numbers of so many pieces are taken.
use Prim.Native.Nat.{◌+◌, ◌≤◌}
use Rattle.image_lay.specs.Laid.{fields_at, Laid}
use Rattle.image_lay.specs.Quads.{Filled}
use Rattle.image_lay_pieces.specs.Quads.{PieceQuads}
use Rattle.image_lay_pieces.proofs.pieces.take_pieces.Given as goal

abbrev pub invariant-loop-j : goal.invariant-loop-j
invariant-loop-j l = (l.j ≤ l.many) × Laid l.v l.j (fields_at (l.start + 6) 10 4 l.bytes) l.initial.words l.words × Laid l.x l.j (fields_at (l.start + 1) 10 2 l.bytes) l.initial.cells l.cells
    × Filled l.j (PieceQuads l.start l.bytes) l.initial.quads l.quads
