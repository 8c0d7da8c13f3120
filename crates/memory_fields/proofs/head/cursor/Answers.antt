-- `cursor` meets its contract. Assumes nothing.
use native.Mathlib.Omega.{arith}
use Rattle.memory_layout.proofs.OffsetLaws.{head_in}
use Rattle.memory_fields.proofs.head.cursor.Goals as goal

pub head_word-requires : goal.head_word-requires
head_word-requires c = record {
  in_bounds = head_in c.args.s c.args.words.now c.requires;
  k_bound = omega arith;
}

pub returns : goal.returns
returns c = record { is = λ records cells. c.head_word.ensures }
