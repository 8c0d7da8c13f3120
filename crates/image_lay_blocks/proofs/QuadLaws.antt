-- Three numbers of a block put into one. Assumes nothing.
use mathlib.Core.Path.{◌≡◌, ◌∙◌}
use mathlib.Core.List.{List}
use Prim.Native.Nat.{ℕ, ◌+◌, ◌*◌, ◌/◌, ◌%◌}
use native.Mathlib.Omega.{arith}
use Rattle.image_bytes.specs.Put.{FieldRead}
use Rattle.image_lay_blocks.specs.Quads.{BlockQuad}

pub block_quad : (at : ℕ) (bytes : List ℕ) (s n h r : ℕ) → FieldRead (at + 1) 1 bytes s → FieldRead (at + 2) 2 bytes n
    → FieldRead (at + 4) 1 bytes h → r ≡ s * 16777216 + (n * 256 + h) → BlockQuad at bytes r
block_quad at bytes s n h r fs fn fh e =
    let es : r / 16777216 % 256 ≡ s = omega (arith, fs.small, fn.small, fh.small) in
    let en : r / 256 % 65536 ≡ n = omega (arith, fs.small, fn.small, fh.small) in
    let eh : r / 1 % 256 ≡ h = omega (arith, fs.small, fn.small, fh.small) in
    record { state = es ∙ fs.is; num_peers = en ∙ fn.is; has = eh ∙ fh.is }
