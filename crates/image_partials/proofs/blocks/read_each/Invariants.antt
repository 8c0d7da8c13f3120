-- `read_each` meets its contract. The loop's invariant: so many blocks were read and counted, and what is left decides.
use Rattle.image_pass.proofs.BlockLaws.{Reading}
use Rattle.image_partials.proofs.blocks.read_each.Given as goal

abbrev pub invariant-loop-j : goal.invariant-loop-j
invariant-loop-j l = Reading l.start l.many l.bytes l.t l.at l.j
