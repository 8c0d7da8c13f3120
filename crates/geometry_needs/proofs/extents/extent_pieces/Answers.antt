-- `extent_pieces` meets its contract: there is an extent e, so it starts before the end. Assumes nothing.
use native.Mathlib.Omega.{arith}
use Rattle.geometry_needs.proofs.ExtentLaws.{extent_starts, begin_same, end_short, end_long}
use borrow.Author.Rules.{rules}
use Rattle.geometry_needs.proofs.extents.extent_pieces.Goals as goal

pub overflow_mul-begin : goal.overflow_mul-begin
overflow_mul-begin c = omega (arith, extent_starts _ _ _ c.extent_size-long.ensures c.requires)

pub overflow_sub-n : goal.overflow_sub-n
overflow_sub-n c = omega (arith, extent_starts _ _ _ c.extent_size-long.ensures c.requires)

pub returns-then-n-begin : goal.returns-then-n-begin
returns-then-n-begin c = (begin_same _ _ c.extent_size-long.ensures, end_short _ _ _ c.extent_size-long.ensures c.if-n-begin.true)

pub returns : goal.returns
returns c = (begin_same _ _ c.extent_size-long.ensures, end_long _ _ _ c.extent_size-long.ensures (extent_starts _ _ _ c.extent_size-long.ensures c.requires) c.if-n-begin.false)
