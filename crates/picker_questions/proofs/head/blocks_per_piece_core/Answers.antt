-- `blocks_per_piece_core` meets its contract. Assumes nothing.
use mathlib.Core.Path.{refl, ap, ◌∙◌}
use borrow.Author.Rules.{rules}
use Rattle.model.specs.ask.Questions.{of_picker, ask_blocks_per_piece, reply, one}
use Rattle.model.specs.Calls.{question_refusal}
use Rattle.picker_answers.proofs.AdmittedLaws.{granted, question_replied}
use Rattle.picker_questions.proofs.head.blocks_per_piece_core.Goals as goal

pub returns : goal.returns
unfolding reply question_refusal
returns c = let v = c.admit_picker in
    let at = c.in_ok-picker.was in
    let g = granted _ _ _ _ _ _ _ v.result v.ensures _ at in
    let t = g.stood in
    question_replied _ _ _ _ _ _ _ v.result v.ensures (of_picker ask_blocks_per_piece) _
    refl (λ d. refl) _ at _
    (ap one c.usize_to_u64.ensures ∙ c.blocks_per_piece.ensures.is _ _ _ t.stands.bounds)
