-- `tell` meets its contract. The loop's invariant: so many numbers were looked at and counted.
use Rattle.image_pass.proofs.QuadLaws.{Telling}
use Rattle.image_pass.proofs.quads.tell.Given as goal

abbrev pub invariant-loop-j : goal.invariant-loop-j
invariant-loop-j l = Telling l.many l.quads l.wrong l.free l.requested l.j
