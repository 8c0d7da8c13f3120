-- `lay_each` meets its contract. The loop's invariant: the numbers of so many blocks are laid.
use mathlib.Core.Path.{◌≡◌, ◌∙◌}
use native.Mathlib.Omega.{arith}
use Rattle.image_lay.proofs.LaidLaws.{laid_start, laid_next, laid_end, record_field_is, three_start, three_next, three_end}
use Rattle.image_lay_blocks.proofs.lay_each.Goals as goal

pub loop-j-init : goal.loop-j-init
loop-j-init c = (omega arith, laid_start _ _ _, three_start _ _ _ _ _ _ _)

pub loop-j-preserved : goal.loop-j-preserved
loop-j-preserved c = (
  omega arith,
  laid_next _ c.loop-j.j _ _ _ c.loop-j.invariant.1 (omega (arith, c.requires.many_in_bounds.1)) _ (record_field_is _ _ _ _ _ _ _ c.read8.ensures),
  three_next _ _ _ c.loop-j.j _ _ _ _ _ _ c.loop-j.invariant.2 (omega arith) c.requires.many_bound.0 c.requires.many_bound.1 c.requires.many_bound.2 _ _ _
      (c.u64_to_u16.ensures ∙ record_field_is _ _ _ _ _ _ _ c.read1.ensures)
      (c.u64_to_u16-in-loop-j.ensures ∙ record_field_is _ _ _ _ _ _ _ c.read2.ensures)
      (c.u64_to_u16-in-loop-j-2.ensures ∙ record_field_is _ _ _ _ _ _ _ c.read1-in-loop-j.ensures),
)

pub returns : goal.returns
returns c = let e : c.loop-j.j ≡ c.args.many = omega arith in
    record {
      peers = laid_end _ c.loop-j.j _ _ _ _ c.loop-j.invariant.1 e;
      others = three_end _ _ _ c.loop-j.j _ _ _ _ _ _ c.loop-j.invariant.2 e;
    }
