-- `piece_column` meets its contract: the cells lie one after another, and the buffer has them. Assumes nothing.
use native.Mathlib.Omega.{arith}
use Rattle.memory_layout.proofs.ColumnLaws.{cells_room, cell_column_is}
use borrow.Author.Rules.{rules}
use Rattle.memory_layout.proofs.columns.piece_column.Goals as goal

pub overflow_mul-start : goal.overflow_mul-start
overflow_mul-start c = omega (arith, cells_room _ _ c.requires.0 _ c.requires.1)

pub overflow_add-end : goal.overflow_add-end
overflow_add-end c = omega (arith, cells_room _ _ c.requires.0 _ c.requires.1)

pub offset_bounds-cells-start : goal.offset_bounds-cells-start
offset_bounds-cells-start c = omega (arith, cells_room _ _ c.requires.0 _ c.requires.1)

pub slice_bounds-result-end : goal.slice_bounds-result-end
slice_bounds-result-end c = omega (arith, cells_room _ _ c.requires.0 _ c.requires.1)

pub returns : goal.returns
returns c = cell_column_is _ _ c.requires.0 _ c.requires.1
