-- `set_word` meets its contract. Assumes nothing.
use native.Mathlib.Omega.{arith}
use Rattle.memory_layout.proofs.OffsetLaws.{head_in}
use Rattle.memory_head_stores.proofs.HeadLaws.{word_set}
use borrow.Author.Rules.{rules}
use Rattle.memory_head_stores.proofs.head.set_word.Goals as goal

pub set_head_word-requires : goal.set_head_word-requires
set_head_word-requires c = record {
  in_bounds = head_in c.args.s c.args.words.now c.requires.words_span;
  k_bound = omega arith;
}

pub returns : goal.returns
returns c = word_set c.args.s c.args.words.now _ c.requires.words_span c.args.k c.args.v c.requires.le_k.0 c.requires.le_k.1 c.set_head_word.ensures
