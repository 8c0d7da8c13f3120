-- `drop_partial` meets its contract. Assumes nothing.
use native.Mathlib.Omega.{arith}
use Rattle.memory_layout.proofs.OffsetLaws.{head_in}
use Rattle.memory_partials.proofs.CloseLaws.{closed_set}
use borrow.Author.Rules.{rules}
use Rattle.memory_partials.proofs.closing.drop_partial.Goals as goal

pub head_word-n-requires : goal.head_word-n-requires
head_word-n-requires c = record {
  in_bounds = head_in _ _ c.requires.words_span;
  k_bound = omega arith;
}

pub overflow_sub-n : goal.overflow_sub-n
overflow_sub-n c = omega (arith, c.head_word-n.ensures, c.requires.nonzero)

pub set_head_word-requires : goal.set_head_word-requires
set_head_word-requires c = record {
  in_bounds = head_in _ _ c.requires.words_span;
  k_bound = omega arith;
}

pub returns : goal.returns
returns c = closed_set _ _ c.requires.words_span _ _ c.head_word-n.ensures c.set_head_word.ensures
