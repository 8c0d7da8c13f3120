-- `hashing_core` meets its contract. Assumes nothing.
use mathlib.Core.Path.{refl}
use borrow.Author.Rules.{rules}
use Rattle.model.specs.ask.Questions.{of_piece, hashing?, reply}
use Rattle.model.specs.Calls.{question_refusal}
use Rattle.picker_answers.proofs.AdmittedLaws.{granted, question_replied, few_rows, rising, live_rows}
use Rattle.picker_partial_questions.proofs.flags.hashing_core.Goals as goal

pub hashing-requires : goal.hashing-requires
hashing-requires c = let v = c.admit_piece in
    let at = c.in_ok-picker.was in
    let g = granted _ _ _ _ _ _ _ v.result v.ensures _ at in
    let t = g.stood in
    record {
      live_bound = few_rows _ _ _ _ _ _ _ t;
      rows_value = rising _ _ _ _ _ _ _ t;
    }

pub returns : goal.returns
unfolding reply question_refusal
returns c = let v = c.admit_piece in
    let at = c.in_ok-picker.was in
    let g = granted _ _ _ _ _ _ _ v.result v.ensures _ at in
    let t = g.stood in
    let i = c.number-i in
    let i_is = i.ensures in
    question_replied _ _ _ _ _ _ _ v.result v.ensures (of_piece hashing? i.result) _
    (λ n. of_piece hashing? (i_is n)) (λ d. refl) _ at _
    (c.hashing.ensures.is _ _ _ (live_rows _ _ _ _ _ _ _ t))
