-- `set_piece_cell` meets its contract: the offset is in the cells. Assumes nothing.
use mathlib.Core.Path.{ap}
use Prim.Native.Nat.{ℕ}
use native.Mathlib.Omega.{arith}
use lib.ListN.{set}
use Rattle.memory_layout.proofs.OffsetLaws.{piece_cell_in}
use borrow.Author.Rules.{rules}
use Rattle.memory_layout.proofs.cells.set_piece_cell.Goals as goal

pub offset_bounds-cells-at : goal.offset_bounds-cells-at
offset_bounds-cells-at c = omega (
  arith,
  c.piece_cell_at-at.ensures,
  piece_cell_in _ c.args.cells.now c.requires.cells_span
      c.args.f c.args.i (omega arith) (omega arith),
)

pub bounds-cells-at : goal.bounds-cells-at
bounds-cells-at c = omega (
  arith,
  c.piece_cell_at-at.ensures,
  piece_cell_in _ c.args.cells.now c.requires.cells_span
      c.args.f c.args.i (omega arith) (omega arith),
)

pub returns : goal.returns
returns c = ap (λ (k : ℕ). set c.args.cells.now k c.args.v) c.piece_cell_at-at.ensures
