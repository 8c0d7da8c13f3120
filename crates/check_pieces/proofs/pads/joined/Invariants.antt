-- `check_pieces::joined` meets its contract. The loop's invariant: no pad so far is above what is joined.
use Rattle.check_pieces.proofs.PadLaws.{Joining}
use Rattle.check_pieces.proofs.pads.joined.Given as goal

abbrev pub invariant-loop-pad : goal.invariant-loop-pad
invariant-loop-pad l = Joining l.pads l.all l.pad-index
