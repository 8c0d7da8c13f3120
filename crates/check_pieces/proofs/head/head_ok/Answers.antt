-- `check_pieces::head_ok` meets its contract: the two tests are those of the definition, at the words that were read.
use mathlib.Core.Path.{sym, ◌∙◌}
use borrow.Author.Tests.{not-true, not-false}
use Rattle.check_pieces.proofs.HeadLaws.{head_bad, head_rest}
use borrow.Author.Rules.{rules}
use Rattle.check_pieces.proofs.head.head_ok.Goals as goal

pub returns-then-not-lengths_ok : goal.returns-then-not-lengths_ok
returns-then-not-lengths_ok c = head_bad _ c.requires.words_value _ c.shape_of-s.ensures _ _ _ _ _ _ c.usize_to_u64-n.ensures c.usize_to_u64-places.ensures
    c.head_word.ensures c.head_word-2.ensures c.head_word-3.ensures
    c.head_word-4.ensures (sym c.lengths_ok.ensures ∙ not-true _ c.if-not-lengths_ok.true-raw)

pub returns : goal.returns
returns c records cells = c.ranges_ok.ensures
    ∙ head_rest _ c.requires.words_value _ c.shape_of-s.ensures _ _ _ _ _ _ c.usize_to_u64-n.ensures c.usize_to_u64-places.ensures c.head_word.ensures c.head_word-2.ensures c.head_word-3.ensures c.head_word-4.ensures
    (sym c.lengths_ok.ensures ∙ not-false _ c.if-not-lengths_ok.false-raw)
    _ _ _ c.head_word-5.ensures c.head_word-6.ensures c.head_word-7.ensures records cells
