-- `payload_blocks` meets its contract. Assumes nothing.
use native.Mathlib.Omega.{arith}
use Rattle.memory_layout.proofs.OffsetLaws.{head_in}
use Rattle.memory_piece_blocks.proofs.NumberLaws.{piece_low, payload_is}
use borrow.Author.Rules.{rules}
use Rattle.memory_piece_blocks.proofs.payload_blocks.Goals as goal

pub head_word-total-requires : goal.head_word-total-requires
head_word-total-requires c = record {
  in_bounds = head_in _ _ c.requires.words_span.0;
  k_bound = omega arith;
}

pub head_word-size-requires : goal.head_word-size-requires
head_word-size-requires c = record {
  in_bounds = head_in _ _ c.requires.words_span.0;
  k_bound = omega arith;
}

pub at-piece-requires : goal.at-piece-requires
at-piece-requires c = omega (arith, c.requires.words_span.0.sizes.many, c.requires.i_lt_pieces)

pub payload_blocks_in_piece-requires : goal.payload_blocks_in_piece-requires
payload_blocks_in_piece-requires c = piece_low _ _ c.requires.words_span.1 _ _ _ _ c.requires.i_lt_pieces c.head_word-total.ensures c.head_word-size.ensures
    c.at-piece.ensures.1

pub returns : goal.returns
returns c = payload_is _ _ _ _ _ _ _ _ _ c.head_word-total.ensures c.head_word-size.ensures c.at-piece.ensures.1
    c.pad_bytes-pad.ensures c.payload_blocks_in_piece.ensures c.u64_to_usize.ensures
