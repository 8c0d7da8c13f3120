-- `lay_part` meets its contract. The loop's invariant: so many numbers are laid.
use Prim.Native.Nat.{◌≤◌}
use Rattle.image_lay.specs.Laid.{Laid}
use Rattle.image_lay.specs.Quads.{part_of}
use Rattle.image_lay.proofs.parts.lay_part.Given as goal

abbrev pub invariant-loop-j : goal.invariant-loop-j
invariant-loop-j l = (l.j ≤ l.many) × Laid l.start l.j (part_of l.below l.size l.quads) l.initial.cells l.cells
