-- `lay_stretch` meets its contract: what is taken out again is what was put in. Assumes nothing.
use mathlib.Core.Path.{◌∙◌}
use Rattle.image_lay.proofs.LaidLaws.{laid_same}
use Rattle.image_lay.proofs.QuadLaws.{part_is, three_columns, four_columns}
use Rattle.image_lay_pieces.proofs.pieces.lay_stretch.Goals as goal

pub returns : goal.returns
returns c = record {
  pads = c.take_pieces.ensures.pads;
  others = four_columns _ _ _ _ _ _ _ _ _ _ _ _ c.requires.x_bound.0 c.requires.x_bound.1 c.requires.x_bound.2 c.take_pieces.ensures.counts
      (three_columns _ _ _ _ _ _ _ _ _ _ _ c.requires.x_bound.1 c.requires.x_bound.2
      (laid_same _ _ _ _ _ _ c.lay_part.ensures (λ j h. part_is _ _ _ _ _ _ _ _ _ (c.take_pieces.ensures.others.each j h).state))
      (laid_same _ _ _ _ _ _ c.lay_part-2.ensures (λ j h. part_is _ _ _ _ _ _ _ _ _ (c.take_pieces.ensures.others.each j h).priority))
      (laid_same _ _ _ _ _ _ c.lay_part-3.ensures (λ j h. part_is _ _ _ _ _ _ _ _ _ (c.take_pieces.ensures.others.each j h).flushed)));
  kept = c.take_pieces.ensures.others.long ∙ c.requires.start_in_bounds.2;
}
