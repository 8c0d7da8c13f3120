-- `pp_memory_needed` meets its contract. Assumes nothing.
use mathlib.Core.Path.{ap, ap₂, subst}
use mir.Syntax.{w32, w64}
use mir.Val.{SFits}
use mir.ValLaws.{to_z-of_z}
use Rattle.types.specs.Piece.{number_of}
use Rattle.geometry_needs.specs.Needs.{memory_of, Lengths}
use borrow.Author.Rules.{rules}
use Rattle.export_picker.proofs.needs.pp_memory_needed.Goals as goal

pub returns : goal.returns
returns c = let a = c.args in
    let m = c.memory_needed-need.result in
    let fits_t : SFits w64 a.total_size = search rules in
    let fits_z : SFits w32 a.piece_size = search rules in
    subst (λ need. Lengths need m.words m.cells m.partials)
    (ap₂ memory_of (ap number_of (to_z-of_z w64 a.total_size fits_t)) (ap number_of (to_z-of_z w32 a.piece_size fits_z)))
    c.memory_needed-need.ensures
