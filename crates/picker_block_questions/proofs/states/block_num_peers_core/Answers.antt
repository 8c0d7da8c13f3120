-- `block_num_peers_core` meets its contract. Assumes nothing.
use mathlib.Core.Path.{refl, ap, ◌∙◌}
use mir.Syntax.{w32}
use mir.Val.{SFits}
use mir.ValLaws.{to_z-of_z}
use Rattle.types.specs.Piece.{number_of}
use borrow.Author.Rules.{rules}
use Rattle.model.specs.ask.Questions.{of_block, block_num_peers, reply}
use Rattle.model.specs.Calls.{question_refusal}
use Rattle.picker_answers.proofs.AdmittedLaws.{granted, question_replied, asked}
use Rattle.picker_block_questions.proofs.states.block_num_peers_core.Goals as goal

pub block_num_peers-requires : goal.block_num_peers-requires
block_num_peers-requires c = let v = c.admit_block in
    let at = c.in_ok-picker.was in
    let g = granted _ _ _ _ _ _ _ v.result v.ensures _ at in
    let t = g.stood in
    record {
      asked = asked _ _ _ _ _ _ _ t;
      i_lt_pieces = g.fits;
    }

pub returns : goal.returns
unfolding reply question_refusal
returns c = let v = c.admit_block in
    let at = c.in_ok-picker.was in
    let i = c.number-i in
    let i_is = i.ensures in
    let j = c.i32_to_usize-j in
    let a = c.args in
    let z = a.block.block_index in
    let fit : SFits w32 z = search rules in
    let j_is = j.ensures ∙ ap number_of (to_z-of_z w32 z fit) in
    question_replied _ _ _ _ _ _ _ v.result v.ensures (of_block block_num_peers i.result j.result) _
    (λ n. of_block block_num_peers (i_is n) (j_is n)) (λ d. refl) _ at _
    c.block_num_peers.ensures
