-- `partial_at_core` meets its contract. Assumes nothing.
use mathlib.Core.Path.{refl, ap, ◌∙◌}
use mir.Syntax.{w32}
use mir.Val.{SFits}
use mir.ValLaws.{to_z-of_z}
use Rattle.types.specs.Piece.{number_of}
use borrow.Author.Rules.{rules}
use Rattle.model.specs.ask.Questions.{partial_at, reply}
use Rattle.model.specs.Calls.{question_refusal}
use Rattle.picker_answers.proofs.AdmittedLaws.{granted, question_replied, few_rows, live_rows}
use Rattle.picker_questions.proofs.places.partial_at_core.Goals as goal

pub partial_at-requires : goal.partial_at-requires
partial_at-requires c = let v = c.admit_picker in
    let at = c.in_ok-picker.was in
    let g = granted _ _ _ _ _ _ _ v.result v.ensures _ at in
    let t = g.stood in
    few_rows _ _ _ _ _ _ _ t

pub returns : goal.returns
unfolding reply question_refusal
returns c = let v = c.admit_picker in
    let at = c.in_ok-picker.was in
    let g = granted _ _ _ _ _ _ _ v.result v.ensures _ at in
    let t = g.stood in
    let k = c.i32_to_usize-k in
    let a = c.args in
    let z = a.place in
    let fit : SFits w32 z = search rules in
    let k_is = k.ensures ∙ ap number_of (to_z-of_z w32 z fit) in
    question_replied _ _ _ _ _ _ _ v.result v.ensures (partial_at k.result) _
    (λ n. partial_at (k_is n)) (λ d. refl) _ at _
    (c.partial_at.ensures.is _ _ _ (live_rows _ _ _ _ _ _ _ t))
