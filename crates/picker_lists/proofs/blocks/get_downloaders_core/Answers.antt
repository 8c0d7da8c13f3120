-- `get_downloaders_core` meets its contract. Assumes nothing.
use mathlib.Core.Path.{refl}
use Prim.Native.Nat.{◌/◌}
use lib.ListN.{length}
use Rattle.model.specs.ask.Questions.{reply, list_of_piece, get_downloaders}
use Rattle.model.specs.Calls.{question_refusal}
use Rattle.picker_answers.proofs.AdmittedLaws.{granted, asked}
use Rattle.picker_lists.specs.Rooms.{room_rule}
use Rattle.picker_lists.specs.Listing.{tell_peers}
use Rattle.picker_lists.proofs.ListLaws.{list_replied, room_two}
use borrow.Author.Rules.{rules}
use Rattle.picker_lists.proofs.blocks.get_downloaders_core.Goals as goal

pub get_downloaders-requires : goal.get_downloaders-requires
get_downloaders-requires c = let v = c.admit_piece_list in
    let at = c.in_ok-picker.was in
    let g = granted _ _ _ _ _ _ _ v.result v.ensures _ at in
    record {
      asked = asked _ _ _ _ _ _ _ g.stood;
      i_lt_pieces = g.fits.0;
      blocks_in_bounds = room_two _ _ g.fits.1;
    }

pub returns : goal.returns
unfolding reply question_refusal room_rule tell_peers
returns c = let v = c.admit_piece_list in
    let at = c.in_ok-picker.was in
    let i = c.number-i in
    let a = c.args in
    let room = length a.out.now / 2 in
    let x = c.get_downloaders in
    list_replied _ _ _ _ _ _ _ v.result v.ensures (list_of_piece get_downloaders i.result room) _
    (λ n. list_of_piece get_downloaders (i.ensures n) room) (λ d. refl) _ _ _ _ at _ _ x.ensures.out_after x.ensures.written
