-- `list_word` meets its contract. Assumes nothing.
use borrow.Author.Rules.{rules}
use mathlib.Core.Path.{refl}
use Rattle.list_entries.specs.Words.{list_word}
use Rattle.list_entries.proofs.list_word.Goals as goal

pub returns : goal.returns
unfolding list_word
returns c = refl
