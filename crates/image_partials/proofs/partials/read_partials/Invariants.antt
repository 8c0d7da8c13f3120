-- `read_partials` meets its contract. The loop's invariant: the pieces so far are passed, and what is left decides.
use Rattle.image_partials.proofs.WalkLaws.{Walking}
use Rattle.image_partials.proofs.partials.read_partials.Given as goal

abbrev pub invariant-loop-i : goal.invariant-loop-i
invariant-loop-i l = Walking l.head l.n l.bytes l.w l.i
