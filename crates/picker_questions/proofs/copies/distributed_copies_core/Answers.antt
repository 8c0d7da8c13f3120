-- `distributed_copies_core` meets its contract. Assumes nothing.
use mathlib.Core.Path.{refl}
use borrow.Author.Rules.{rules}
use Rattle.model.specs.ask.Questions.{of_picker, distributed_copies, reply}
use Rattle.model.specs.Calls.{question_refusal}
use Rattle.picker_answers.proofs.AdmittedLaws.{granted, question_replied, beside}
use Rattle.picker_questions.proofs.copies.distributed_copies_core.Goals as goal

pub distributed_copies-requires : goal.distributed_copies-requires
distributed_copies-requires c = let v = c.admit_picker in
    let at = c.in_ok-picker.was in
    let g = granted _ _ _ _ _ _ _ v.result v.ensures _ at in
    let t = g.stood in
    beside _ _ _ _ _ _ _ t

pub returns : goal.returns
unfolding reply question_refusal
returns c = let v = c.admit_picker in
    let at = c.in_ok-picker.was in
    let g = granted _ _ _ _ _ _ _ v.result v.ensures _ at in
    let t = g.stood in
    question_replied _ _ _ _ _ _ _ v.result v.ensures (of_picker distributed_copies) _
    refl (λ d. refl) _ at _
    (c.distributed_copies.ensures.is _ t.stands.bounds)
