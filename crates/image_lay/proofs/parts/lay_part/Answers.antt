-- `lay_part` meets its contract. The loop's invariant: so many numbers are laid.
use native.Mathlib.Omega.{arith}
use Rattle.image_lay.specs.Quads.{part_of}
use Rattle.image_lay.proofs.LaidLaws.{laid_start, laid_next, laid_end}
use Rattle.image_lay.proofs.parts.lay_part.Goals as goal

pub loop-j-init : goal.loop-j-init
loop-j-init c = (omega arith, laid_start _ _ _)

pub loop-j-preserved : goal.loop-j-preserved
unfolding part_of
loop-j-preserved c = (omega arith, laid_next _ c.loop-j.j _ _ _ c.loop-j.invariant.1 (omega (arith, c.requires.many_in_bounds.1)) _ c.part.ensures)

pub returns : goal.returns
returns c = laid_end _ c.loop-j.j _ _ _ _ c.loop-j.invariant.1 (omega arith)
