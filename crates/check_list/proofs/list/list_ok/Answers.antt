-- `check_pieces::list_ok` meets its contract: the dirty flag, the count and the places are the parts of the definition.
use mathlib.Core.Path.{◌∙◌}
use native.Mathlib.Omega.{arith}
use Rattle.check_pieces.proofs.HeadLaws.{head_there}
use Rattle.check_list.proofs.ListTests.{dirty_list, other_many, as_many}
use borrow.Author.Rules.{rules}
use Rattle.check_list.proofs.list.list_ok.Goals as goal

pub head_word-requires : goal.head_word-requires
head_word-requires c = record {
  in_bounds = head_there _ _ c.requires.head_passed;
  k_bound = omega arith;
}

pub returns-then-head_word-eq1 : goal.returns-then-head_word-eq1
returns-then-head_word-eq1 c = dirty_list _ _ c.args.ranks.now c.requires.head_passed _ c.head_word.ensures c.if-head_word-eq1.true

pub head_word-requires-2 : goal.head_word-requires-2
head_word-requires-2 c = record {
  in_bounds = head_there _ _ c.requires.head_passed;
  k_bound = omega arith;
}

pub returns-then-ranked-many : goal.returns-then-ranked-many
returns-then-ranked-many c = other_many _ _ _ c.requires.head_passed _ c.head_word.ensures c.if-head_word-eq1.false _ _ (c.u64_to_usize-many.ensures ∙ c.head_word-2.ensures) c.ranked.ensures c.if-ranked-many.true

pub returns : goal.returns
returns c = as_many _ _ _ c.requires.head_passed _ c.head_word.ensures c.if-head_word-eq1.false c.u64_to_usize-many.result c.ranked.result (c.u64_to_usize-many.ensures ∙ c.head_word-2.ensures) c.ranked.ensures (omega arith) _ c.places_ok.ensures
