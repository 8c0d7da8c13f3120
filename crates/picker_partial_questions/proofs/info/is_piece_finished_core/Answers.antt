-- `is_piece_finished_core` meets its contract. Assumes nothing.
use mathlib.Core.Path.{refl}
use borrow.Author.Rules.{rules}
use Rattle.model.specs.ask.Questions.{of_piece, is_piece_finished, reply}
use Rattle.model.specs.Calls.{question_refusal}
use Rattle.picker_answers.proofs.AdmittedLaws.{granted, question_replied, asked}
use Rattle.picker_partial_questions.proofs.info.is_piece_finished_core.Goals as goal

pub is_piece_finished-requires : goal.is_piece_finished-requires
is_piece_finished-requires c = let v = c.admit_piece in
    let at = c.in_ok-picker.was in
    let g = granted _ _ _ _ _ _ _ v.result v.ensures _ at in
    let t = g.stood in
    record {
      asked_counts = record { asked = asked _ _ _ _ _ _ _ t; held = t.counted; wide = t.long_counts };
      i_lt_pieces = g.fits;
    }

pub returns : goal.returns
unfolding reply question_refusal
returns c = let v = c.admit_piece in
    let at = c.in_ok-picker.was in
    let i = c.number-i in
    let i_is = i.ensures in
    question_replied _ _ _ _ _ _ _ v.result v.ensures (of_piece is_piece_finished i.result) _
    (λ n. of_piece is_piece_finished (i_is n)) (λ d. refl) _ at _
    c.is_piece_finished.ensures
