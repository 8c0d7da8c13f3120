-- `mark_dirty` meets its contract. Assumes nothing.
use native.Mathlib.Omega.{arith}
use Rattle.memory_layout.proofs.OffsetLaws.{head_in}
use Rattle.memory_head_stores.proofs.HeadLaws.{dirty_set}
use borrow.Author.Rules.{rules}
use Rattle.memory_head_stores.proofs.head.mark_dirty.Goals as goal

pub set_head_word-requires : goal.set_head_word-requires
set_head_word-requires c = record {
  in_bounds = head_in c.args.s c.args.words.now c.requires;
  k_bound = omega arith;
}

pub set_head_word-requires-2 : goal.set_head_word-requires-2
set_head_word-requires-2 c = record {
  in_bounds = omega (arith, head_in c.args.s c.args.words.now c.requires);
  k_bound = omega arith;
}

pub returns : goal.returns
returns c = dirty_set c.args.s c.args.words.now c.set_head_word.new.words _ c.requires c.set_head_word.ensures
    c.set_head_word-2.ensures
