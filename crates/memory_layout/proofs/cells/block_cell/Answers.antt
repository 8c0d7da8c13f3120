-- `block_cell` meets its contract: the offset is in the cells. Assumes nothing.
use mathlib.Core.Path.{ap}
use Prim.Native.Nat.{ℕ}
use native.Mathlib.Omega.{arith}
use lib.ListN.{get_or}
use Rattle.memory_layout.specs.Decode.{block_cell}
use Rattle.memory_layout.proofs.OffsetLaws.{block_cell_in}
use borrow.Author.Rules.{rules}
use Rattle.memory_layout.proofs.cells.block_cell.Goals as goal

pub offset_bounds-cells-at : goal.offset_bounds-cells-at
offset_bounds-cells-at c = omega (
  arith,
  c.block_cell_at-at.ensures,
  block_cell_in _ c.args.cells.now c.requires.cells_span
      c.args.f c.args.p c.args.j (omega arith) (omega arith) (omega arith),
)

pub bounds-cells-at : goal.bounds-cells-at
bounds-cells-at c = omega (
  arith,
  c.block_cell_at-at.ensures,
  block_cell_in _ c.args.cells.now
      c.requires.cells_span c.args.f c.args.p
      c.args.j (omega arith) (omega arith) (omega arith),
)

pub returns : goal.returns
unfolding block_cell
returns c = ap (λ (k : ℕ). get_or c.args.cells.now k 0) c.block_cell_at-at.ensures
