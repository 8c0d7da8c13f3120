-- `new_core` meets its contract: each return is an arm of `new`. Assumes nothing.
use mathlib.Core.Path.{sym, ap, ◌∙◌}
use mir.Syntax.{w32, w64}
use mir.Val.{SFits}
use mir.ValLaws.{to_z-of_z}
use Rattle.types.specs.Piece.{number_of}
use Rattle.picker_images.proofs.MakingLaws.{bad_geometry, short_memory, room, made-new}
use borrow.Author.Rules.{rules}
use Rattle.picker_images.proofs.making.new_core.Goals as goal

pub returns-then-not-valid_geometry : goal.returns-then-not-valid_geometry
returns-then-not-valid_geometry c = let a = c.args in
    let fits_t : SFits w64 a.total_size = search rules in
    let fits_z : SFits w32 a.piece_size = search rules in
    bad_geometry _ _ _ _ _ _ _ (c.i64_to_u64-total.ensures ∙ ap number_of (to_z-of_z w64 a.total_size fits_t))
    (c.usize_to_u64-size.ensures ∙ c.i32_to_usize.ensures ∙ ap number_of (to_z-of_z w32 a.piece_size fits_z))
    (sym c.valid_geometry.ensures ∙ c.if-not-valid_geometry.true)

pub returns-then-is_short : goal.returns-then-is_short
returns-then-is_short c = let a = c.args in
    let fits_t : SFits w64 a.total_size = search rules in
    let fits_z : SFits w32 a.piece_size = search rules in
    short_memory _ _ _ _ _ _ _ (c.i64_to_u64-total.ensures ∙ ap number_of (to_z-of_z w64 a.total_size fits_t))
    (c.usize_to_u64-size.ensures ∙ c.i32_to_usize.ensures ∙ ap number_of (to_z-of_z w32 a.piece_size fits_z))
    (sym c.valid_geometry.ensures ∙ c.if-not-valid_geometry.false)
    (sym c.is_short.ensures ∙ c.if-is_short.true)

pub make-requires : goal.make-requires
make-requires c = let valid = sym c.valid_geometry.ensures ∙ c.if-not-valid_geometry.false in
    record {
      size_value = valid;
      room = room _ _ _ _ _ valid (sym c.is_short.ensures ∙ c.if-is_short.false);
    }

pub returns : goal.returns
returns c = let a = c.args in
    let fits_t : SFits w64 a.total_size = search rules in
    let fits_z : SFits w32 a.piece_size = search rules in
    made-new _ _ _ _ _ _ _ (c.i64_to_u64-total.ensures ∙ ap number_of (to_z-of_z w64 a.total_size fits_t))
    (c.usize_to_u64-size.ensures ∙ c.i32_to_usize.ensures ∙ ap number_of (to_z-of_z w32 a.piece_size fits_z))
    (sym c.valid_geometry.ensures
    ∙ c.if-not-valid_geometry.false)
    (sym c.is_short.ensures ∙ c.if-is_short.false) _ _ _ c.make.ensures
