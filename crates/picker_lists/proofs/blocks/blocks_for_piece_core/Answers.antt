-- `blocks_for_piece_core` meets its contract. Assumes nothing.
use mathlib.Core.Path.{refl}
use Prim.Native.Nat.{◌/◌}
use lib.ListN.{length}
use Rattle.model.specs.ask.Questions.{reply, list_of_piece, blocks_for_piece}
use Rattle.model.specs.Calls.{question_refusal}
use Rattle.picker_answers.proofs.AdmittedLaws.{granted, asked}
use Rattle.picker_lists.specs.Rooms.{room_rule}
use Rattle.picker_lists.proofs.ListLaws.{blocks_replied, room_four}
use borrow.Author.Rules.{rules}
use Rattle.picker_lists.proofs.blocks.blocks_for_piece_core.Goals as goal

pub blocks_for_piece-requires : goal.blocks_for_piece-requires
blocks_for_piece-requires c = let v = c.admit_piece_list in
    let at = c.in_ok-picker.was in
    let g = granted _ _ _ _ _ _ _ v.result v.ensures _ at in
    record {
      asked = asked _ _ _ _ _ _ _ g.stood;
      i_lt_pieces = g.fits.0;
      blocks_in_bounds = room_four _ _ g.fits.1;
    }

pub returns : goal.returns
unfolding reply question_refusal room_rule
returns c = let v = c.admit_piece_list in
    let at = c.in_ok-picker.was in
    let i = c.number-i in
    let a = c.args in
    let room = length a.out.now / 4 in
    let x = c.blocks_for_piece in
    blocks_replied _ _ _ _ _ _ _ v.result v.ensures (list_of_piece blocks_for_piece i.result room) _
    (λ n. list_of_piece blocks_for_piece (i.ensures n) room) (λ d. refl) _ _ at _ _ x.ensures.result_after x.ensures.written
