-- `take_blocks` meets its contract. The loop's invariant: the numbers of so many blocks are taken.
use mathlib.Core.Path.{◌≡◌}
use native.Mathlib.Omega.{arith}
use Rattle.image_lay.proofs.LaidLaws.{laid_start, laid_next, laid_end, record_field_is}
use Rattle.image_lay.proofs.QuadLaws.{filled_start, filled_next, filled_end}
use Rattle.image_lay_blocks.proofs.quads.take_blocks.Goals as goal

pub loop-j-init : goal.loop-j-init
loop-j-init c = (omega arith, laid_start _ _ _, filled_start _ _)

pub loop-j-preserved : goal.loop-j-preserved
loop-j-preserved c = (
  omega arith,
  laid_next _ c.loop-j.j _ _ _ c.loop-j.invariant.1 (omega (arith, c.requires.1)) _ (record_field_is _ _ _ _ _ _ _ c.read8.ensures),
  filled_next _ _ c.loop-j.j _ c.loop-j.invariant.2 (omega (arith, c.requires.2)) _ c.block_quad.ensures,
)

pub returns : goal.returns
returns c = let e : c.loop-j.j ≡ c.args.many = omega arith in
    record {
      peers = laid_end _ c.loop-j.j _ _ _ _ c.loop-j.invariant.1 e;
      others = filled_end _ _ c.loop-j.j _ c.loop-j.invariant.2 _ e;
    }
