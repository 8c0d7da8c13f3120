-- `set_seeds` meets its contract. Assumes nothing.
use native.Mathlib.Omega.{arith}
use Rattle.model.specs.State.{with_seeds}
use Rattle.memory_layout.specs.Tables.{choose}
use Rattle.memory_layout.specs.Changes.{with_head}
use borrow.Author.Rules.{rules}
use Rattle.memory_head_stores.proofs.head.set_seeds.Goals as goal

pub set_word-requires : goal.set_word-requires
set_word-requires c = record {
  words_span = c.requires;
  le_k = (omega arith, omega arith);
}

pub returns : goal.returns
unfolding with_head with_seeds choose
returns c = c.set_word.ensures
