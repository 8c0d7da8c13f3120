-- `image_needed` meets its contract: a valid geometry is within the limits. Assumes nothing.
use mathlib.Core.Path.{sym, ◌∙◌}
use Rattle.geometry_needs.proofs.NeedLaws.{small, bytes_valid, bytes_none}
use borrow.Author.Rules.{rules}
use Rattle.geometry_needs.proofs.needs.image_needed.Goals as goal

pub largest_image-requires : goal.largest_image-requires
largest_image-requires c = rw (c.num_pieces.ensures, c.blocks_per_piece.ensures) (small _ _ (sym c.valid_geometry.ensures ∙ c.if-valid_geometry.true))

pub returns-then-valid_geometry : goal.returns-then-valid_geometry
returns-then-valid_geometry c = cc (bytes_valid _ _ (sym c.valid_geometry.ensures ∙ c.if-valid_geometry.true))

pub returns : goal.returns
returns c = bytes_none _ _ (sym c.valid_geometry.ensures ∙ c.if-valid_geometry.false)
