-- `total_size` meets its contract. Assumes nothing.
use mathlib.Core.Path.{ap}
use native.Mathlib.Omega.{arith}
use Rattle.model.specs.ask.Questions.{reply_picker, one}
use Rattle.memory_layout.proofs.OffsetLaws.{head_in}
use Rattle.ask_picker.proofs.total_size.Goals as goal

pub head_word-requires : goal.head_word-requires
head_word-requires c = record {
  in_bounds = head_in c.args.s c.args.words.now c.requires;
  k_bound = omega arith;
}

pub returns : goal.returns
unfolding reply_picker
returns c = record { is = λ records cells. ap one c.head_word.ensures }
