-- `take_image` meets its contract. Assumes nothing.
use mathlib.Core.Path.{refl}
use borrow.Author.Rules.{rules}
use native.Mathlib.Omega.{arith}
use Rattle.image_write.proofs.whole.take_image.Goals as goal

pub returns-then-bytes-long : goal.returns-then-bytes-long
returns-then-bytes-long c = let e = c.image_length-long.ensures.is _ c.requires in
    (omega (arith, c.if-bytes-long.true), refl)

pub write_image-requires : goal.write_image-requires
write_image-requires c = let e = c.image_length-long.ensures.is _ c.requires in
    record {
      asked = c.requires;
      cells_in_bounds = omega (arith, c.if-bytes-long.false);
    }
