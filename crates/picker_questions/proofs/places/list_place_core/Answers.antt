-- `list_place_core` meets its contract. Assumes nothing.
use mathlib.Core.Path.{refl, ap, ◌∙◌}
use mir.Syntax.{w32}
use mir.Val.{SFits}
use mir.ValLaws.{to_z-of_z}
use Rattle.types.specs.Piece.{number_of}
use borrow.Author.Rules.{rules}
use Rattle.model.specs.ask.Questions.{ask_list_place, reply}
use Rattle.model.specs.Calls.{question_refusal}
use Rattle.picker_answers.proofs.AdmittedLaws.{granted, question_replied}
use Rattle.picker_questions.proofs.places.list_place_core.Goals as goal

pub list_place-requires : goal.list_place-requires
list_place-requires c = let v = c.admit_place in
    let at = c.in_ok-picker.was in
    let g = granted _ _ _ _ _ _ _ v.result v.ensures _ at in
    let t = g.stood in
    record {
      words_span = t.stands.bounds.spans.in_words;
      words_bound = t.stands.bounds.list;
    }

pub returns : goal.returns
unfolding reply question_refusal
returns c = let v = c.admit_place in
    let at = c.in_ok-picker.was in
    let g = granted _ _ _ _ _ _ _ v.result v.ensures _ at in
    let t = g.stood in
    let k = c.i32_to_usize-k in
    let a = c.args in
    let z = a.place in
    let fit : SFits w32 z = search rules in
    let k_is = k.ensures ∙ ap number_of (to_z-of_z w32 z fit) in
    question_replied _ _ _ _ _ _ _ v.result v.ensures (ask_list_place k.result) _
    (λ n. ask_list_place (k_is n)) (λ d. refl) _ at _
    (c.list_place.ensures.is _ _ t.stands.bounds)
