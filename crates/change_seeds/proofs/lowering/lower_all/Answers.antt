-- `lower_all` meets its contract. In the loop the first i counts are lowered. Assumes nothing.
use Prim.Native.Nat.{◌-◌}
use native.Mathlib.Omega.{arith}
use Rattle.change_seeds.proofs.PassLaws.{pass_none, pass_next, cell_there, pass_whole, all_lowered}
use Rattle.change_seeds.proofs.lowering.lower_all.Goals as goal

pub loop-i-init : goal.loop-i-init
loop-i-init c = (omega arith, pass_none (λ n. n - 1) c.args.cells.now)

pub bounds-cells-i : goal.bounds-cells-i
bounds-cells-i c = cell_there (λ n. n - 1) c.args.s c.args.cells.now c.loop-i.cells c.loop-i.i c.requires c.loop-i.invariant.1 (omega arith)

pub bounds-cells-i-in-loop-i : goal.bounds-cells-i-in-loop-i
bounds-cells-i-in-loop-i c = cell_there (λ n. n - 1) c.args.s c.args.cells.now c.loop-i.cells c.loop-i.i c.requires c.loop-i.invariant.1
    (omega arith)

pub loop-i-preserved : goal.loop-i-preserved
loop-i-preserved c = let h = cell_there (λ n. n - 1) c.args.s c.args.cells.now c.loop-i.cells c.loop-i.i c.requires c.loop-i.invariant.1 (omega arith) in
    (omega arith, pass_next (λ n. n - 1) c.args.cells.now c.loop-i.i c.loop-i.cells c.saturating_sub.result c.loop-i.invariant.1 h c.saturating_sub.ensures)

pub shape_of-cells : goal.shape_of-cells
shape_of-cells c = c.loop-i.invariant.1.long

pub returns : goal.returns
returns c = all_lowered c.args.s c.args.cells.now c.loop-i.cells c.requires
    (pass_whole (λ n. n - 1) c.args.cells.now c.loop-i.cells c.loop-i.i c.args.s.pieces (omega arith) c.loop-i.invariant.1)
