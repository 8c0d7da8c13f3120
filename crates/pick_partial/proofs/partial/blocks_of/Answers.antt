-- `blocks_of` meets its contract. Assumes nothing.
use Rattle.pick_partial.proofs.PartialLaws.{many_is, piece_in_head}
use Rattle.memory_layout.proofs.OffsetLaws.{head_in}
use native.Mathlib.Omega.{arith}
use borrow.Author.Rules.{rules}
use Rattle.pick_partial.proofs.partial.blocks_of.Goals as goal

pub head_word-total-requires : goal.head_word-total-requires
head_word-total-requires c = record {
  in_bounds = head_in _ _ c.requires.0;
  k_bound = omega arith;
}

pub head_word-size-requires : goal.head_word-size-requires
head_word-size-requires c = record {
  in_bounds = head_in _ _ c.requires.0;
  k_bound = omega arith;
}

pub blocks_at-requires : goal.blocks_at-requires
blocks_at-requires c = piece_in_head _ _ c.requires.1 _ _ _ _ c.head_word-total.ensures c.head_word-size.ensures c.usize_to_u64.ensures
    c.requires.2

pub returns : goal.returns
returns c = many_is _ _ _ _ _ _ _ c.head_word-total.ensures c.head_word-size.ensures
    c.usize_to_u64.ensures c.blocks_at.ensures c.u64_to_usize.ensures
