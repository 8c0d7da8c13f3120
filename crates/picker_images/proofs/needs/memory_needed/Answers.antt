-- `memory_needed` meets its contract: the geometry's, of numbers with a sign. Assumes nothing.
use mathlib.Core.Path.{ap, subst, ◌∙◌}
use mir.Syntax.{w32, w64}
use mir.Val.{SFits}
use mir.ValLaws.{to_z-of_z}
use Prim.Native.Nat.{ℕ}
use Rattle.types.specs.Piece.{number_of}
use Rattle.geometry_needs.specs.Needs.{memory_of, Lengths}
use borrow.Author.Rules.{rules}
use Rattle.picker_images.proofs.needs.memory_needed.Goals as goal

pub returns : goal.returns
returns c = let a = c.args in
    let m = c.memory_needed.result in
    let fits_t : SFits w64 a.total_size = search rules in
    let fits_z : SFits w32 a.piece_size = search rules in
    subst (λ (t : ℕ). Lengths (memory_of t (number_of a.piece_size)) m.words m.cells m.partials)
    (c.i64_to_u64.ensures ∙ ap number_of (to_z-of_z w64 a.total_size fits_t))
    (subst (λ (z : ℕ). Lengths (memory_of c.i64_to_u64.result z) m.words m.cells m.partials)
    (c.usize_to_u64.ensures ∙ c.i32_to_usize.ensures ∙ ap number_of (to_z-of_z w32 a.piece_size fits_z))
    c.memory_needed.ensures)
