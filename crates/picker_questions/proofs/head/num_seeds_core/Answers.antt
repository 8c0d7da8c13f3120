-- `num_seeds_core` meets its contract. Assumes nothing.
use mathlib.Core.Path.{refl}
use borrow.Author.Rules.{rules}
use Rattle.model.specs.ask.Questions.{of_picker, num_seeds, reply}
use Rattle.model.specs.Calls.{question_refusal}
use Rattle.picker_answers.proofs.AdmittedLaws.{granted, question_replied}
use Rattle.picker_questions.proofs.head.num_seeds_core.Goals as goal

pub num_seeds-requires : goal.num_seeds-requires
num_seeds-requires c = let v = c.admit_picker in
    let at = c.in_ok-picker.was in
    let g = granted _ _ _ _ _ _ _ v.result v.ensures _ at in
    let t = g.stood in
    t.stands.bounds.spans.in_words

pub returns : goal.returns
unfolding reply question_refusal
returns c = let v = c.admit_picker in
    let at = c.in_ok-picker.was in
    question_replied _ _ _ _ _ _ _ v.result v.ensures (of_picker num_seeds) _
    refl (λ d. refl) _ at _
    (c.num_seeds.ensures.is _ _)
