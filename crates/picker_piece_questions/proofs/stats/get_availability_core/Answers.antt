-- `get_availability_core` meets its contract. Assumes nothing.
use mathlib.Core.Path.{refl}
use borrow.Author.Rules.{rules}
use Rattle.model.specs.ask.Questions.{of_piece, get_availability, reply}
use Rattle.model.specs.Calls.{question_refusal}
use Rattle.picker_answers.proofs.AdmittedLaws.{granted, question_replied, beside}
use Rattle.picker_piece_questions.proofs.stats.get_availability_core.Goals as goal

pub get_availability-requires : goal.get_availability-requires
get_availability-requires c = let v = c.admit_piece in
    let at = c.in_ok-picker.was in
    let g = granted _ _ _ _ _ _ _ v.result v.ensures _ at in
    let t = g.stood in
    record {
      stands_beside = beside _ _ _ _ _ _ _ t;
      i_lt_pieces = g.fits;
    }

pub returns : goal.returns
unfolding reply question_refusal
returns c = let v = c.admit_piece in
    let at = c.in_ok-picker.was in
    let g = granted _ _ _ _ _ _ _ v.result v.ensures _ at in
    let t = g.stood in
    let i = c.number-i in
    let i_is = i.ensures in
    question_replied _ _ _ _ _ _ _ v.result v.ensures (of_piece get_availability i.result) _
    (λ n. of_piece get_availability (i_is n)) (λ d. refl) _ at _
    (c.get_availability.ensures.is _ t.stands.bounds)
