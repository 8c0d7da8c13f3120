-- `is_dirty` meets its contract. Assumes nothing.
use native.Mathlib.Omega.{arith}
use Rattle.memory_layout.specs.Decode.{yes?}
use Rattle.memory_layout.proofs.OffsetLaws.{head_in}
use Rattle.memory_fields.proofs.HeadLaws.{dirty_read}
use Rattle.memory_fields.proofs.head.is_dirty.Goals as goal

pub head_word-requires : goal.head_word-requires
head_word-requires c = record {
  in_bounds = head_in c.args.s c.args.words.now c.requires;
  k_bound = omega arith;
}

pub returns : goal.returns
unfolding yes?
returns c = dirty_read c.args.words.now c.head_word.result c.head_word.ensures
