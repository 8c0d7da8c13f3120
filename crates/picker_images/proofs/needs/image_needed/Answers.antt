-- `image_needed` meets its contract: the geometry's, of numbers with a sign. Assumes nothing.
use mathlib.Core.Path.{ap, ap₂, ◌∙◌}
use mir.Syntax.{w32, w64}
use mir.Val.{SFits}
use mir.ValLaws.{to_z-of_z}
use Rattle.types.specs.Piece.{number_of}
use Rattle.geometry_needs.specs.Needs.{bytes_for}
use borrow.Author.Rules.{rules}
use Rattle.picker_images.proofs.needs.image_needed.Goals as goal

pub returns : goal.returns
returns c = let a = c.args in
    let fits_t : SFits w64 a.total_size = search rules in
    let fits_z : SFits w32 a.piece_size = search rules in
    c.image_needed.ensures
    ∙ ap₂ bytes_for (c.i64_to_u64.ensures ∙ ap number_of (to_z-of_z w64 a.total_size fits_t))
    (c.usize_to_u64.ensures ∙ c.i32_to_usize.ensures ∙ ap number_of (to_z-of_z w32 a.piece_size fits_z))
