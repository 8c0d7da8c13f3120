-- `pad_bytes_in_piece_core` meets its contract. Assumes nothing.
use mathlib.Core.Path.{refl}
use borrow.Author.Rules.{rules}
use Rattle.model.specs.ask.Questions.{of_piece, pad_bytes_in_piece, reply}
use Rattle.model.specs.Calls.{question_refusal}
use Rattle.picker_answers.proofs.AdmittedLaws.{granted, question_replied}
use Rattle.picker_piece_questions.proofs.fields.pad_bytes_in_piece_core.Goals as goal

pub pad_bytes_in_piece-requires : goal.pad_bytes_in_piece-requires
pad_bytes_in_piece-requires c = let v = c.admit_piece in
    let at = c.in_ok-picker.was in
    let g = granted _ _ _ _ _ _ _ v.result v.ensures _ at in
    let t = g.stood in
    record {
      words_span = t.stands.bounds.spans.in_words;
      i_lt_pieces = g.fits;
    }

pub returns : goal.returns
unfolding reply question_refusal
returns c = let v = c.admit_piece in
    let at = c.in_ok-picker.was in
    let g = granted _ _ _ _ _ _ _ v.result v.ensures _ at in
    let t = g.stood in
    let i = c.number-i in
    let i_is = i.ensures in
    question_replied _ _ _ _ _ _ _ v.result v.ensures (of_piece pad_bytes_in_piece i.result) _
    (λ n. of_piece pad_bytes_in_piece (i_is n)) (λ d. refl) _ at _
    (c.pad_bytes_in_piece.ensures.is _ _ t.stands.bounds)
