-- `lay_many` meets its contract: what is taken out again is what was put in. Assumes nothing.
use Rattle.image_lay.proofs.LaidLaws.{laid_same}
use Rattle.image_lay.proofs.QuadLaws.{part_is, three_columns}
use Rattle.image_lay_blocks.proofs.quads.lay_many.Goals as goal

pub returns : goal.returns
returns c = record {
  peers = c.take_blocks.ensures.peers;
  others = three_columns _ _ _ _ _ _ _ _ _ _ _ c.requires.many_bound_2.0 c.requires.many_bound_2.1
      (laid_same _ _ _ _ _ _ c.lay_part.ensures (λ j h. part_is _ _ _ _ _ _ _ _ _ (c.take_blocks.ensures.others.each j h).state))
      (laid_same _ _ _ _ _ _ c.lay_part-2.ensures (λ j h. part_is _ _ _ _ _ _ _ _ _ (c.take_blocks.ensures.others.each j h).num_peers))
      (laid_same _ _ _ _ _ _ c.lay_part-3.ensures (λ j h. part_is _ _ _ _ _ _ _ _ _ (c.take_blocks.ensures.others.each j h).has));
}
