-- `print_loops` meets its contract. Assumes nothing.
use Rattle.std.proofs.Common.{append_assoc}
use Rattle.pick_pieces.specs.Whole.{loops_of}
use Rattle.pick.proofs.TextLaws.{then_more}
use Rattle.pick.proofs.printing.print_loops.Goals as goal

pub returns : goal.returns
unfolding loops_of
returns g c = then_more c.writeln.result _ _ _ _ _ _ (simp append_assoc) c.in_ok-write.ensures.bytes c.writeln.ensures.bytes
