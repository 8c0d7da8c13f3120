-- `cells_start` meets its contract: no product or sum wraps. Assumes nothing.
use native.Mathlib.Omega.{arith}
use Rattle.memory_layout.specs.Offsets.{cell, block_cell_at}
use Rattle.memory_layout.proofs.OffsetLaws.{small}
use Rattle.image_columns.proofs.offsets.cells_start.Goals as goal

pub overflow_mul-result : goal.overflow_mul-result
overflow_mul-result c = let m = small c.args.s c.args.f c.args.p c.requires.0 (omega (arith, c.requires.1)) (omega (arith, c.requires.2)) in
    omega arith

pub overflow_mul-result-2 : goal.overflow_mul-result-2
overflow_mul-result-2 c = let m = small c.args.s c.args.f c.args.p c.requires.0 (omega (arith, c.requires.1)) (omega (arith, c.requires.2)) in
    omega arith

pub overflow_mul-result-3 : goal.overflow_mul-result-3
overflow_mul-result-3 c = let m = small c.args.s c.args.f c.args.p c.requires.0 (omega (arith, c.requires.1)) (omega (arith, c.requires.2)) in
    omega arith

pub overflow_mul-result-4 : goal.overflow_mul-result-4
overflow_mul-result-4 c = let m = small c.args.s c.args.f c.args.p c.requires.0 (omega (arith, c.requires.1)) (omega (arith, c.requires.2)) in
    omega arith

pub overflow_add-result : goal.overflow_add-result
overflow_add-result c = let m = small c.args.s c.args.f c.args.p c.requires.0 (omega (arith, c.requires.1)) (omega (arith, c.requires.2)) in
    omega arith

pub overflow_add-result-2 : goal.overflow_add-result-2
overflow_add-result-2 c = let m = small c.args.s c.args.f c.args.p c.requires.0 (omega (arith, c.requires.1)) (omega (arith, c.requires.2)) in
    omega arith

pub returns : goal.returns
unfolding block_cell_at cell
returns c = rw (← c.requires.0.places) (omega arith)
