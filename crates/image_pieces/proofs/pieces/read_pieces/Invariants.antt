-- `read_pieces` meets its contract. The loop's invariant: what is left decides, and each piece so far has its rank.
use lib.ListN.{length}
use Rattle.image_pieces.specs.Pieces.{Reading}
use Rattle.image_pieces.proofs.pieces.read_pieces.Given as goal

abbrev pub invariant-loop-i : goal.invariant-loop-i
invariant-loop-i l = Reading l.head l.n (length l.initial.ranks) l.bytes l.ranks l.i
