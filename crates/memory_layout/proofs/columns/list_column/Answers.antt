-- `list_column` meets its contract: the words lie one after another, and the buffer has them. Assumes nothing.
use native.Mathlib.Omega.{arith}
use Rattle.memory_layout.specs.Offsets.{cell, piece_word_at}
use Rattle.memory_layout.proofs.ColumnLaws.{words_room, word_column_is}
use borrow.Author.Rules.{rules}
use Rattle.memory_layout.proofs.columns.list_column.Goals as goal

pub overflow_add-start : goal.overflow_add-start
overflow_add-start c = omega (arith, c.requires.sizes.many)

pub overflow_add-end : goal.overflow_add-end
overflow_add-end c = omega (arith, c.requires.sizes.many)

pub offset_bounds-words-start : goal.offset_bounds-words-start
offset_bounds-words-start c = omega (arith, c.requires.sizes.many)

pub slice_bounds-result-end : goal.slice_bounds-result-end
slice_bounds-result-end c = omega (arith, words_room _ _ c.requires)

pub returns : goal.returns
unfolding piece_word_at cell
returns c = word_column_is _ _ 1 _ (omega arith) (omega (arith, words_room _ _ c.requires))
