-- `pass_pieces` meets its contract. The loop's invariant: so many pieces are read, and what is left decides.
use Prim.Native.Nat.{◌*◌}
use lib.ListN.{length}
use Rattle.image_pieces.specs.Pieces.{Reading}
use Rattle.image_pieces.proofs.stretch.pass_pieces.Given as goal

abbrev pub invariant-loop-k : goal.invariant-loop-k
invariant-loop-k l = Reading l.head l.n (length l.initial.ranks) l.bytes l.ranks (128 * l.k)
