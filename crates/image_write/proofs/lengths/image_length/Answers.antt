-- `image_length` meets its contract. Assumes nothing.
use mathlib.Core.Path.{◌∙◌}
use Rattle.memory_layout.proofs.OffsetLaws.{head_in}
use Rattle.image_write.proofs.LengthLaws.{parts_small, length_is}
use borrow.Author.Rules.{rules}
use native.Mathlib.Omega.{arith}
use Rattle.image_write.proofs.lengths.image_length.Goals as goal

pub head_word-extents-requires : goal.head_word-extents-requires
head_word-extents-requires c = record {
  in_bounds = head_in _ _ c.requires.asked.stands.bounds.spans.in_words;
  k_bound = omega arith;
}

pub head_word-places-requires : goal.head_word-places-requires
head_word-places-requires c = record {
  in_bounds = head_in _ _ c.requires.asked.stands.bounds.spans.in_words;
  k_bound = omega arith;
}

pub image_length-requires : goal.image_length-requires
image_length-requires c = parts_small _ _ _ _ _ c.requires.asked _ _ _ _ _ c.usize_to_u64.ensures c.usize_to_u64-2.ensures c.blocks_of_rows-blocks.ensures c.head_word-extents.ensures c.head_word-places.ensures

pub returns : goal.returns
returns c = record {
  is = λ cells g.
      c.u64_to_usize.ensures ∙ c.image_length.ensures
      ∙ length_is _ _ _ _ cells g _ _ _ _ _ c.usize_to_u64.ensures c.usize_to_u64-2.ensures c.blocks_of_rows-blocks.ensures c.head_word-extents.ensures c.head_word-places.ensures;
}
