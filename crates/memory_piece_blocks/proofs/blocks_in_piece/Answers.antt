-- `blocks_in_piece` meets its contract. Assumes nothing.
use native.Mathlib.Omega.{arith}
use Rattle.memory_layout.proofs.OffsetLaws.{head_in}
use Rattle.memory_piece_blocks.proofs.NumberLaws.{piece_low, blocks_whole, blocks_is}
use borrow.Author.Rules.{rules}
use Rattle.memory_piece_blocks.proofs.blocks_in_piece.Goals as goal

pub returns-then-i-s : goal.returns-then-i-s
returns-then-i-s c = blocks_whole _ _ c.requires.words_span.1 _ c.if-i-s.true

pub head_word-total-requires : goal.head_word-total-requires
head_word-total-requires c = record {
  in_bounds = head_in _ _ c.requires.words_span.0;
  k_bound = omega arith;
}

pub head_word-size-requires : goal.head_word-size-requires
head_word-size-requires c = record {
  in_bounds = head_in _ _ c.requires.words_span.0;
  k_bound = omega arith;
}

pub blocks_at-requires : goal.blocks_at-requires
blocks_at-requires c = piece_low _ _ c.requires.words_span.1 _ _ _ _ c.requires.i_lt_pieces c.head_word-total.ensures c.head_word-size.ensures
    c.usize_to_u64.ensures

pub returns : goal.returns
returns c = blocks_is _ _ _ _ _ _ _ c.head_word-total.ensures c.head_word-size.ensures c.usize_to_u64.ensures
    c.blocks_at.ensures c.u64_to_usize.ensures
