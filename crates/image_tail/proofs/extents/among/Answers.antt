-- `among` meets its contract. The loop's invariant: the extents that are left decide.
use Prim.Native.Nat.{◌-◌}
use native.Mathlib.Omega.{arith}
use Rattle.image_tail.proofs.ExtentLaws.{Sought, sought_start, sought_found, sought_next, sought_end}
use borrow.Author.Rules.{rules}
use Rattle.image_tail.proofs.extents.among.Goals as goal

pub loop-j-init : goal.loop-j-init
loop-j-init c = sought_start _ _ _ _

pub returns-then-e-read4 : goal.returns-then-e-read4
returns-then-e-read4 c = sought_found _ _ _ _ c.loop-j.j c.loop-j.invariant (omega arith) _
    c.read4.ensures c.if-e-read4.true

pub loop-j-preserved : goal.loop-j-preserved
loop-j-preserved c = sought_next _ _ _ _ c.loop-j.j c.loop-j.invariant (omega arith) _
    c.read4.ensures c.if-e-read4.false

pub returns : goal.returns
returns c = sought_end _ _ _ _ c.loop-j.j c.loop-j.invariant (omega arith)
