-- `largest_image` meets its contract: within the limits no sum wraps. Assumes nothing.
use native.Mathlib.Omega.{arith}
use Rattle.geometry_needs.specs.Needs.{largest_image}
use Rattle.geometry_needs.proofs.NeedLaws.{blocks_most, parts_most}
use borrow.Author.Rules.{rules}
use Rattle.geometry_needs.proofs.needs.largest_image.Goals as goal

pub overflow_mul-partials : goal.overflow_mul-partials
overflow_mul-partials c = omega (arith, blocks_most _ _ c.requires c.lesser-partials.ensures)

pub image_length-requires : goal.image_length-requires
image_length-requires c = parts_most _ _ c.requires c.lesser-partials.ensures

pub returns : goal.returns
unfolding largest_image
returns c = cc
