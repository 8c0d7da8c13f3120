-- `download_state_core` meets its contract. Assumes nothing.
use mathlib.Core.Path.{refl, ap, ◌∙◌}
use borrow.Author.Rules.{rules}
use Rattle.model.specs.ask.Questions.{of_piece, download_state, reply, one}
use Rattle.model.specs.Calls.{question_refusal}
use Rattle.picker_answers.proofs.AdmittedLaws.{granted, question_replied}
use Rattle.picker_piece_questions.proofs.fields.download_state_core.Goals as goal

pub download_state-requires : goal.download_state-requires
download_state-requires c = let v = c.admit_piece in
    let at = c.in_ok-picker.was in
    let g = granted _ _ _ _ _ _ _ v.result v.ensures _ at in
    let t = g.stood in
    record {
      cells_span = t.stands.bounds.spans.in_cells;
      i_lt_pieces = g.fits;
    }

pub returns : goal.returns
unfolding reply question_refusal
returns c = let v = c.admit_piece in
    let at = c.in_ok-picker.was in
    let g = granted _ _ _ _ _ _ _ v.result v.ensures _ at in
    let t = g.stood in
    let i = c.number-i in
    let i_is = i.ensures in
    question_replied _ _ _ _ _ _ _ v.result v.ensures (of_piece download_state i.result) _
    (λ n. of_piece download_state (i_is n)) (λ d. refl) _ at _
    (ap one c.u16_to_u64.ensures ∙ c.download_state.ensures.is _ _ t.stands.bounds)
