-- `check_pieces::pads_one_by_one` meets its contract. The loop's invariant: the pads that are left decide.
use Rattle.check_pieces.proofs.PadLaws.{Testing}
use Rattle.check_pieces.proofs.pads.pads_one_by_one.Given as goal

abbrev pub invariant-loop-pad : goal.invariant-loop-pad
invariant-loop-pad l = Testing l.size l.pads l.pad-index
