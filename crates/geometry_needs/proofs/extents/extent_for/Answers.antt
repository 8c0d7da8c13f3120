-- `extent_for` meets its contract. Assumes nothing.
use mathlib.Core.Path.{◌∙◌, sym}
use native.Mathlib.Omega.{arith}
use Rattle.geometry.specs.Numbers.{extent_of}
use Rattle.geometry_needs.proofs.ExtentLaws.{extent_of_none}
use borrow.Author.Rules.{rules}
use Rattle.geometry_needs.proofs.extents.extent_for.Goals as goal

pub returns-then-long-eq0 : goal.returns-then-long-eq0
returns-then-long-eq0 c = extent_of_none _ _ (sym c.extent_size-long.ensures ∙ c.if-long-eq0.true)

pub returns : goal.returns
unfolding extent_of
returns c = rw (c.number_of.ensures, c.extent_size-long.ensures)
