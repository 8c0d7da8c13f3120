-- `push_recent_extent` meets its contract. Assumes nothing.
use mathlib.Core.Path.{◌∙◌}
use native.Mathlib.Omega.{arith}
use Rattle.memory_layout.proofs.OffsetLaws.{head_in}
use Rattle.memory_head_stores.proofs.ExtentLaws.{extent_pushed}
use borrow.Author.Rules.{rules}
use Rattle.memory_head_stores.proofs.extents.push_recent_extent.Goals as goal

pub head_word-requires : goal.head_word-requires
head_word-requires c = record {
  in_bounds = head_in c.args.s c.args.words.now c.requires.words_span;
  k_bound = omega arith;
}

pub overflow_add-n : goal.overflow_add-n
overflow_add-n c = omega (arith, c.u64_to_usize-n.ensures, c.head_word.ensures, c.requires.words_bound)

pub set_head_word-requires : goal.set_head_word-requires
set_head_word-requires c = record {
  in_bounds = head_in c.args.s c.args.words.now c.requires.words_span;
  k_bound = omega (arith, c.u64_to_usize-n.ensures, c.head_word.ensures, c.requires.words_bound);
}

pub overflow_add-n-2 : goal.overflow_add-n-2
overflow_add-n-2 c = omega (arith, c.u64_to_usize-n.ensures, c.head_word.ensures, c.requires.words_bound)

pub set_head_word-requires-2 : goal.set_head_word-requires-2
set_head_word-requires-2 c = record {
  in_bounds = omega (arith, head_in c.args.s c.args.words.now c.requires.words_span);
  k_bound = omega arith;
}

pub returns : goal.returns
returns c = extent_pushed c.args.s c.args.words.now c.set_head_word.new.words _ c.requires.words_span c.requires.words_bound c.args.v c.u64_to_usize-n.result
    c.usize_to_u64-w.result (c.u64_to_usize-n.ensures ∙ c.head_word.ensures) c.set_head_word.ensures
    c.usize_to_u64-w.ensures c.set_head_word-2.ensures
