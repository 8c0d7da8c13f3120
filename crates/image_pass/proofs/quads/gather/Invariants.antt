-- `gather` meets its contract. The loop's invariant: the numbers of so many blocks are gathered.
use Prim.Native.Nat.{◌≤◌}
use Rattle.image_pass.specs.Quads.{Gathered}
use Rattle.image_pass.proofs.quads.gather.Given as goal

abbrev pub invariant-loop-j : goal.invariant-loop-j
invariant-loop-j l = (l.j ≤ l.many) × Gathered l.start l.j l.bytes l.initial.quads l.quads l.lone
