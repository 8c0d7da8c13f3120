-- `pass_whole` meets its contract. The loop's invariant: so many blocks were passed, and are well where no peer stands without its flag.
use Rattle.image_pass.proofs.PassLaws.{Passing}
use Rattle.image_pass.proofs.pass.pass_whole.Given as goal

abbrev pub invariant-loop-j : goal.invariant-loop-j
invariant-loop-j l = Passing l.start l.many l.bytes l.lone l.sum l.at l.j
