-- `num_partials` meets its contract. Assumes nothing.
use mathlib.Core.Path.{◌∙◌}
use native.Mathlib.Omega.{arith}
use Rattle.memory_layout.proofs.OffsetLaws.{head_in}
use Rattle.memory_fields.proofs.HeadLaws.{partials_read}
use borrow.Author.Rules.{rules}
use Rattle.memory_fields.proofs.head.num_partials.Goals as goal

pub head_word-requires : goal.head_word-requires
head_word-requires c = record {
  in_bounds = head_in c.args.s c.args.words.now c.requires;
  k_bound = omega arith;
}

pub returns : goal.returns
returns c = partials_read c.args.words.now c.u64_to_usize.result (c.u64_to_usize.ensures ∙ c.head_word.ensures)
