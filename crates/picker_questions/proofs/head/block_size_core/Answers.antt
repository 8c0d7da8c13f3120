-- `block_size_core` meets its contract. Assumes nothing.
use mathlib.Core.Path.{refl}
use borrow.Author.Rules.{rules}
use Rattle.model.specs.ask.Questions.{of_picker, block_size, reply}
use Rattle.model.specs.Calls.{question_refusal}
use Rattle.picker_answers.proofs.AdmittedLaws.{granted, question_replied}
use Rattle.picker_questions.proofs.head.block_size_core.Goals as goal

pub block_size-requires : goal.block_size-requires
block_size-requires c = let v = c.admit_picker in
    let at = c.in_ok-picker.was in
    let g = granted _ _ _ _ _ _ _ v.result v.ensures _ at in
    let t = g.stood in
    t.stands.bounds.spans.in_words

pub returns : goal.returns
unfolding reply question_refusal
returns c = let v = c.admit_picker in
    let at = c.in_ok-picker.was in
    question_replied _ _ _ _ _ _ _ v.result v.ensures (of_picker block_size) _
    refl (λ d. refl) _ at _
    (c.block_size.ensures.is _ _)
