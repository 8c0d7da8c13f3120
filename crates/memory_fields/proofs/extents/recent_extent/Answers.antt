-- `recent_extent` meets its contract. Assumes nothing.
use native.Mathlib.Omega.{arith}
use Rattle.memory_layout.proofs.OffsetLaws.{head_in}
use Rattle.memory_fields.proofs.ExtentLaws.{extent_read}
use borrow.Author.Rules.{rules}
use Rattle.memory_fields.proofs.extents.recent_extent.Goals as goal

pub head_word-requires : goal.head_word-requires
head_word-requires c = record {
  in_bounds = head_in c.args.s c.args.words.now c.requires.words_span;
  k_bound = omega arith;
}

pub returns : goal.returns
returns c = extent_read c.args.words.now c.args.k c.requires.k_bound.0 c.head_word.result c.head_word.ensures
