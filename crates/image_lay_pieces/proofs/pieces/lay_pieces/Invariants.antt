-- `lay_pieces` meets its contract. The loop's invariant: the numbers of so many pieces are laid.
use mathlib.Core.Path.{◌≡◌}
use Prim.Native.Nat.{◌+◌, ◌*◌}
use lib.ListN.{length}
use Rattle.image_lay.specs.Laid.{fields_at, Laid, LaidFour}
use Rattle.image_lay_pieces.proofs.pieces.lay_pieces.Given as goal

abbrev pub invariant-loop-k : goal.invariant-loop-k
invariant-loop-k l = Laid l.v (128 * l.k) (fields_at (l.start + 6) 10 4 l.bytes) l.initial.words l.words × LaidFour l.x l.y l.z l.t (128 * l.k) (fields_at (l.start + 1) 10 2 l.bytes)
    (fields_at (l.start + 3) 10 1 l.bytes) (fields_at (l.start + 4) 10 1 l.bytes) (fields_at (l.start + 5) 10 1 l.bytes) l.initial.cells l.cells
    × (length l.quads ≡ 128)
