-- `head_word` meets its contract. Assumes nothing.
use mathlib.Core.Path.{refl}
use Rattle.memory_layout.specs.Decode.{head_word}
use borrow.Author.Rules.{rules}
use Rattle.memory_layout.proofs.words.head_word.Goals as goal

pub returns : goal.returns
unfolding head_word
returns c = refl
