-- `block_column` meets its contract: the part that it lends lies in the cells. Assumes nothing.
use native.Mathlib.Omega.{arith}
use Rattle.memory_layout.proofs.ColumnLaws.{block_low, block_within, block_column_is}
use borrow.Author.Rules.{rules}
use Rattle.memory_layout.proofs.columns.block_column.Goals as goal

pub overflow_add-end : goal.overflow_add-end
overflow_add-end c = omega (
  arith,
  c.block_start-start.ensures,
  block_low _ c.requires.cells_span.sizes c.args.f
      c.args.p (omega arith) (omega arith),
  c.requires.cells_span.sizes.wide,
)

pub offset_bounds-cells-start : goal.offset_bounds-cells-start
offset_bounds-cells-start c = omega (
  arith,
  c.block_start-start.ensures,
  block_low _ c.requires.cells_span.sizes c.args.f
      c.args.p (omega arith) (omega arith),
)

pub slice_bounds-result-end : goal.slice_bounds-result-end
slice_bounds-result-end c = omega (
  arith,
  c.block_start-start.ensures,
  block_within _ _ c.requires.cells_span c.args.f
      c.args.p c.args.many (omega arith) (omega arith) (omega arith),
)

pub returns : goal.returns
returns c = block_column_is _ _ _ _ _ _ c.block_start-start.ensures
    (omega (
      arith,
      c.block_start-start.ensures,
      block_within _ _ c.requires.cells_span
          c.args.f c.args.p c.args.many (omega arith)
          (omega arith) (omega arith),
    ))
