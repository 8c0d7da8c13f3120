-- `lay_each` meets its contract. The loop's invariant: the numbers of so many blocks are laid.
use Prim.Native.Nat.{◌+◌, ◌≤◌}
use Rattle.image_lay.specs.Laid.{fields_at, Laid, LaidThree}
use Rattle.image_lay_blocks.proofs.lay_each.Given as goal

abbrev pub invariant-loop-j : goal.invariant-loop-j
invariant-loop-j l = (l.j ≤ l.many) × Laid l.v l.j (fields_at (l.start + 5) 13 8 l.bytes) l.initial.words l.words × LaidThree l.x l.y l.z l.j (fields_at (l.start + 1) 13 1 l.bytes)
    (fields_at (l.start + 2) 13 2 l.bytes) (fields_at (l.start + 4) 13 1 l.bytes) l.initial.cells l.cells
