-- `block_cell_at` meets its contract: block j stands j cells behind the start. Assumes nothing.
use native.Mathlib.Omega.{arith}
use Rattle.memory_layout.proofs.ColumnLaws.{block_low, block_behind}
use borrow.Author.Rules.{rules}
use Rattle.memory_layout.proofs.offsets.block_cell_at.Goals as goal

pub overflow_add-result : goal.overflow_add-result
overflow_add-result c = omega (
  arith,
  c.block_start.ensures,
  block_low _ c.requires.sizes c.args.f c.args.p (omega arith)
      (omega arith),
  c.requires.sizes.wide,
)

pub returns : goal.returns
returns c = block_behind _ _ _ _ _ _ c.block_start.ensures
