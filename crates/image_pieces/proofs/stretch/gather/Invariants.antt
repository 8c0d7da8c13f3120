-- `gather` meets its contract. The loop's invariant: the numbers of so many pieces are gathered, and nothing is wrong with them.
use mathlib.Core.Bool.{true}
use Prim.Native.Nat.{◌≤◌}
use Rattle.image_pieces.specs.Stretches.{Gathered}
use Rattle.image_pieces.proofs.stretch.gather.Given as goal

abbrev pub invariant-loop-j : goal.invariant-loop-j
invariant-loop-j l = (l.j ≤ 128) × Gathered l.start l.j l.size l.bytes l.counts l.states l.priorities l.flushed true
