-- `piece_stats_core` meets its contract. Assumes nothing.
use mathlib.Core.Path.{refl}
use borrow.Author.Rules.{rules}
use Rattle.model.specs.ask.Questions.{of_piece, piece_stats, reply}
use Rattle.model.specs.Calls.{question_refusal}
use Rattle.picker_answers.proofs.AdmittedLaws.{granted, question_replied, beside}
use Rattle.picker_piece_questions.proofs.stats.piece_stats_core.Goals as goal

pub piece_stats-requires : goal.piece_stats-requires
piece_stats-requires c = let v = c.admit_piece in
    let at = c.in_ok-picker.was in
    let g = granted _ _ _ _ _ _ _ v.result v.ensures _ at in
    let t = g.stood in
    record {
      stands_beside = beside _ _ _ _ _ _ _ t;
      i_lt_pieces = g.fits;
    }

pub returns : goal.returns
unfolding reply question_refusal
returns c = let v = c.admit_piece in
    let at = c.in_ok-picker.was in
    let g = granted _ _ _ _ _ _ _ v.result v.ensures _ at in
    let t = g.stood in
    let i = c.number-i in
    let i_is = i.ensures in
    question_replied _ _ _ _ _ _ _ v.result v.ensures (of_piece piece_stats i.result) _
    (λ n. of_piece piece_stats (i_is n)) (λ d. refl) _ at _
    (c.piece_stats.ensures.is _ t.stands.bounds)
