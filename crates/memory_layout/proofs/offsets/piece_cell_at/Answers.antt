-- `piece_cell_at` meets its contract: no product or sum wraps. Assumes nothing.
use mathlib.Core.Path.{refl}
use native.Mathlib.Omega.{arith}
use Rattle.memory_layout.specs.Offsets.{cell, piece_cell_at}
use Rattle.memory_layout.proofs.OffsetLaws.{small}
use Rattle.memory_layout.proofs.offsets.piece_cell_at.Goals as goal

pub overflow_mul-result : goal.overflow_mul-result
overflow_mul-result c = let m = small c.args.s c.args.f 0 c.requires.sizes (omega arith) (omega arith) in
    omega arith

pub overflow_add-result : goal.overflow_add-result
overflow_add-result c = let m = small c.args.s c.args.f 0 c.requires.sizes (omega arith) (omega arith) in
    omega arith

pub returns : goal.returns
unfolding piece_cell_at cell
returns c = refl
