-- `list_place` meets its contract. Assumes nothing.
use native.Mathlib.Omega.{arith}
use borrow.Author.Rules.{rules}
use Rattle.memory_list.proofs.Regions.{place_read}
use Rattle.memory_list.proofs.list_place.Goals as goal

pub piece_word-requires : goal.piece_word-requires
piece_word-requires c = record {
  words_span = c.requires.words_span;
  f_bound = (omega arith, omega (arith, c.requires.k_bound));
}

pub returns : goal.returns
returns c = place_read c.args.s c.args.words.now c.args.k c.requires.k_bound.0 _ _ c.u64_to_usize.ensures c.piece_word.ensures
