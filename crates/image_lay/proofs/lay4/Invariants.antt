-- `lay4` meets its contract. The loop's invariant: so many numbers are laid.
use Prim.Native.Nat.{◌≤◌}
use Rattle.image_lay.specs.Laid.{fields_at, Laid}
use Rattle.image_lay.proofs.lay4.Given as goal

abbrev pub invariant-loop-j : goal.invariant-loop-j
invariant-loop-j l = (l.j ≤ l.many) × Laid l.start l.j (fields_at l.first l.step 4 l.bytes) l.initial.words l.words
