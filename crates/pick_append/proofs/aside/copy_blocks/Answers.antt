-- `copy_blocks` meets its contract. Assumes nothing.
use Rattle.pick_append.proofs.AppendLaws.{copy_start, copy_next, copy_end}
use Rattle.pick_append.specs.Appending.{Copied}
use native.Mathlib.Omega.{arith}
use Prim.Native.Nat.{◌-◌, ◌≤◌}
use borrow.Author.Rules.{rules}
use Rattle.pick_append.proofs.aside.copy_blocks.Goals as goal

pub loop-k-init : goal.loop-k-init
loop-k-init c = (omega arith, copy_start _ _ _)

pub bounds-out-at : goal.bounds-out-at
bounds-out-at c = omega (arith, c.requires.0, c.loop-k.invariant.1.long)

pub loop-k-preserved : goal.loop-k-preserved
loop-k-preserved c = (omega arith, copy_next _ _ _ _ _ c.loop-k.invariant.1 (omega (arith, c.requires.0)) (omega (arith, c.requires.1)))

pub shape_of-out : goal.shape_of-out
shape_of-out c = c.loop-k.invariant.1.long

pub returns : goal.returns
returns c = copy_end _ _ _ _ _ _ c.loop-k.invariant.1 (omega (arith, c.loop-k.invariant.0))
