-- `num_have_core` meets its contract. Assumes nothing.
use mathlib.Core.Path.{refl}
use borrow.Author.Rules.{rules}
use Rattle.model.specs.ask.Questions.{of_picker, ask_num_have, reply}
use Rattle.model.specs.Calls.{question_refusal}
use Rattle.picker_answers.proofs.AdmittedLaws.{granted, question_replied, asked}
use Rattle.picker_totals.proofs.totals.num_have_core.Goals as goal

pub num_have-requires : goal.num_have-requires
num_have-requires c = let v = c.admit_picker in
    let at = c.in_ok-picker.was in
    let g = granted _ _ _ _ _ _ _ v.result v.ensures _ at in
    let t = g.stood in
    asked _ _ _ _ _ _ _ t

pub returns : goal.returns
unfolding reply question_refusal
returns c = let v = c.admit_picker in
    let at = c.in_ok-picker.was in
    question_replied _ _ _ _ _ _ _ v.result v.ensures (of_picker ask_num_have) _
    refl (λ d. refl) _ at _
    c.num_have.ensures
