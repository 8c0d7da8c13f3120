-- `parts_of` meets its contract: the quotient of one less, and one. Assumes nothing.
use Prim.Native.Nat.{◌-◌}
use native.Mathlib.Nat.{div-le_self}
use native.Mathlib.Omega.{arith}
use Rattle.geometry.proofs.PartLaws.{parts_of_nothing, parts_of_none, parts_rounded}
use Rattle.geometry.proofs.parts.parts_of.Goals as goal

pub returns-then-whole-eq0 : goal.returns-then-whole-eq0
returns-then-whole-eq0 c = parts_of_nothing _ _ c.if-whole-eq0.true

pub returns-then-part-eq0 : goal.returns-then-part-eq0
returns-then-part-eq0 c = parts_of_none _ _ c.if-part-eq0.true

pub returns : goal.returns
returns c = parts_rounded _ _ (omega arith) (omega arith)
