-- `raise_all` meets its contract. In the loop the first i counts are raised. Assumes nothing.
use Prim.Native.Nat.{suc}
use native.Mathlib.Omega.{arith}
use Rattle.change_seeds.proofs.PassLaws.{pass_none, pass_next, cell_there, cell_fits, pass_whole, all_raised}
use Rattle.change_seeds.proofs.raising.raise_all.Goals as goal

pub loop-i-init : goal.loop-i-init
loop-i-init c = (omega arith, pass_none suc c.args.cells.now)

pub bounds-cells-i : goal.bounds-cells-i
bounds-cells-i c = cell_there suc c.args.s c.args.cells.now c.loop-i.cells c.loop-i.i c.requires.cells_span c.loop-i.invariant.1 (omega arith)

pub overflow_add-cells : goal.overflow_add-cells
overflow_add-cells c = omega (arith, cell_fits suc c.args.s c.args.cells.now c.loop-i.cells c.loop-i.i c.requires.counts_fit c.loop-i.invariant.1 (omega arith))

pub bounds-cells-i-in-loop-i : goal.bounds-cells-i-in-loop-i
bounds-cells-i-in-loop-i c = cell_there suc c.args.s c.args.cells.now c.loop-i.cells c.loop-i.i c.requires.cells_span c.loop-i.invariant.1 (omega arith)

pub loop-i-preserved : goal.loop-i-preserved
loop-i-preserved c = let h = cell_there suc c.args.s c.args.cells.now c.loop-i.cells c.loop-i.i c.requires.cells_span c.loop-i.invariant.1 (omega arith) in
    (omega arith, pass_next suc c.args.cells.now c.loop-i.i c.loop-i.cells _ c.loop-i.invariant.1 h (omega arith))

pub shape_of-cells : goal.shape_of-cells
shape_of-cells c = c.loop-i.invariant.1.long

pub returns : goal.returns
returns c = all_raised c.args.s c.args.cells.now c.loop-i.cells c.requires.cells_span
    (pass_whole suc c.args.cells.now c.loop-i.cells c.loop-i.i c.args.s.pieces (omega arith) c.loop-i.invariant.1)
