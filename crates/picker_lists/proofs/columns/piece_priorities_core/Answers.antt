-- `piece_priorities_core` meets its contract. Assumes nothing.
use mathlib.Core.Path.{refl}
use Rattle.model.specs.ask.Questions.{reply}
use Rattle.model.specs.Calls.{question_refusal, records_needed}
use Rattle.picker_answers.proofs.AdmittedLaws.{granted, beside}
use Rattle.picker_lists.specs.Rooms.{room_rule}
use Rattle.picker_lists.specs.Listing.{tell_numbers}
use Rattle.picker_lists.proofs.ListLaws.{list_replied, column_written}
use borrow.Author.Rules.{rules}
use Rattle.picker_lists.proofs.columns.piece_priorities_core.Goals as goal

pub piece_priorities-requires : goal.piece_priorities-requires
piece_priorities-requires c = let v = c.admit_list in
    let at = c.in_ok-picker.was in
    let g = granted _ _ _ _ _ _ _ v.result v.ensures _ at in
    record {
      stands_beside = beside _ _ _ _ _ _ _ g.stood;
      pieces_in_bounds = g.fits;
    }

pub returns : goal.returns
unfolding reply question_refusal records_needed room_rule tell_numbers
returns c = let v = c.admit_list in
    let at = c.in_ok-picker.was in
    let t = (granted _ _ _ _ _ _ _ v.result v.ensures _ at).stood in
    let x = c.piece_priorities in
    list_replied _ _ _ _ _ _ _ v.result v.ensures _ _ refl (λ d. refl) _ _ _ _ at _ _
    (x.ensures.is _ t.stands.bounds) (column_written _ _ _ _ _ _ x.ensures)
