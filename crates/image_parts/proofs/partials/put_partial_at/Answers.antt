-- `put_partial_at` meets its contract: its fields, then its blocks. Assumes nothing.
use mathlib.Core.Path.{◌≡◌, ◌∙◌}
use Rattle.model.specs.Lists.{nth}
use Rattle.model.specs.image.Image.{body_length}
use Rattle.memory_layout.proofs.OffsetLaws.{head_in}
use Rattle.image_parts.proofs.RecordMeanings.{partial_put}
use Rattle.image_parts.proofs.RowLaws.{piece_there, blocks_there, plain_blocks}
use native.Mathlib.Omega.{arith}
use Rattle.image_parts.proofs.partials.put_partial_at.Goals as goal

pub head_word-requires : goal.head_word-requires
head_word-requires c = record {
  in_bounds = head_in _ _ c.requires.spans.0.in_words;
  k_bound = omega arith;
}

pub head_word-requires-2 : goal.head_word-requires-2
head_word-requires-2 c = record {
  in_bounds = head_in _ _ c.requires.spans.0.in_words;
  k_bound = omega arith;
}

pub blocks_at-requires : goal.blocks_at-requires
blocks_at-requires c = piece_there _ _ _ _ _ _ c.requires.spans.1 (c.usize_to_u64-piece.ensures ∙ c.u32_to_usize.ensures) c.head_word.ensures
    c.head_word-2.ensures c.requires.index_lt_pieces.0

pub overflow_add-body_length : goal.overflow_add-body_length
unfolding body_length nth
overflow_add-body_length c = let e : c.body_length.result ≡ 5 = c.body_length.ensures in omega arith

pub overflow_add-at : goal.overflow_add-at
unfolding body_length nth
overflow_add-at c = let e : c.body_length.result ≡ 5 = c.body_length.ensures in omega (arith, c.requires.index_in_bounds)

pub put_blocks-requires : goal.put_blocks-requires
unfolding body_length nth
put_blocks-requires c = let e : c.body_length.result ≡ 5 = c.body_length.ensures in
    let ei = c.usize_to_u64-piece.ensures ∙ c.u32_to_usize.ensures in
    let em = c.u64_to_usize-many.ensures ∙ blocks_there _ _ _ _ _ _ ei c.head_word.ensures c.head_word-2.ensures c.blocks_at.ensures in
    record {
      spans = (c.requires.spans.0, plain_blocks c.args.s _ _ _ _ _ c.requires.plain_record c.u32_to_usize-place.ensures em);
      p_lt_places = (omega (arith, c.requires.index_lt_pieces.1), omega (arith, c.requires.index_lt_pieces.2), omega (arith, c.requires.index_in_bounds, c.put_partial.ensures.long));
    }

pub shape_of-bytes : goal.shape_of-bytes
shape_of-bytes c = c.put_blocks.ensures.put.long ∙ c.put_partial.ensures.long

pub returns : goal.returns
unfolding body_length nth
returns c = let e : c.body_length.result ≡ 5 = c.body_length.ensures in
    let ei = c.usize_to_u64-piece.ensures ∙ c.u32_to_usize.ensures in
    let em = c.u64_to_usize-many.ensures ∙ blocks_there _ _ _ _ _ _ ei c.head_word.ensures c.head_word-2.ensures c.blocks_at.ensures in
    partial_put _ _ _ _ _ _ _ _ _ _ _ _ _ _ _ c.requires.plain_record.flags ei (c.usize_to_u64-flags.ensures ∙ c.u32_to_usize-2.ensures)
    c.u32_to_usize-place.ensures em (omega arith) c.put_partial.ensures c.put_blocks.ensures
