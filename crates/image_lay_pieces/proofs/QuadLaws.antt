-- Three numbers of a piece put into one. Assumes nothing.
use mathlib.Core.Path.{◌≡◌, ◌∙◌}
use mathlib.Core.List.{List}
use Prim.Native.Nat.{ℕ, ◌+◌, ◌*◌, ◌/◌, ◌%◌}
use native.Mathlib.Omega.{arith}
use Rattle.image_bytes.specs.Put.{FieldRead}
use Rattle.image_lay_pieces.specs.Quads.{PieceQuad}

pub piece_quad : (at : ℕ) (bytes : List ℕ) (c s p f r : ℕ) → FieldRead (at + 3) 1 bytes s → FieldRead (at + 4) 1 bytes p
    → FieldRead (at + 5) 1 bytes f → r ≡ (c * 256 + s) * 65536 + (p * 256 + f) → PieceQuad at bytes r
piece_quad at bytes c s p f r fs fp ff e =
    let es : r / 65536 % 256 ≡ s = omega (arith, fs.small, fp.small, ff.small) in
    let ep : r / 256 % 256 ≡ p = omega (arith, fs.small, fp.small, ff.small) in
    let ef : r / 1 % 256 ≡ f = omega (arith, fs.small, fp.small, ff.small) in
    record { state = es ∙ fs.is; priority = ep ∙ fp.is; flushed = ef ∙ ff.is }
