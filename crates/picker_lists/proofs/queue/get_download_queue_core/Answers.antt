-- `get_download_queue_core` meets its contract. Assumes nothing.
use mathlib.Core.Path.{refl}
use Rattle.model.specs.ask.Questions.{reply}
use Rattle.model.specs.Calls.{question_refusal, records_needed}
use Rattle.picker_answers.proofs.AdmittedLaws.{granted, asked}
use Rattle.picker_lists.specs.Rooms.{room_rule}
use Rattle.picker_lists.specs.Listing.{tell_infos}
use Rattle.picker_lists.proofs.ListLaws.{list_replied, room_seven}
use borrow.Author.Rules.{rules}
use Rattle.picker_lists.proofs.queue.get_download_queue_core.Goals as goal

pub get_download_queue-requires : goal.get_download_queue-requires
get_download_queue-requires c = let v = c.admit_list in
    let at = c.in_ok-picker.was in
    let g = granted _ _ _ _ _ _ _ v.result v.ensures _ at in
    let t = g.stood in
    record {
      asked_counts = record { asked = asked _ _ _ _ _ _ _ t; held = t.counted; wide = t.long_counts };
      places_in_bounds = room_seven _ _ g.fits;
    }

pub returns : goal.returns
unfolding reply question_refusal records_needed room_rule tell_infos
returns c = let v = c.admit_list in
    let at = c.in_ok-picker.was in
    let x = c.get_download_queue in
    list_replied _ _ _ _ _ _ _ v.result v.ensures _ _ refl (λ d. refl) _ _ _ _ at _ _ x.ensures.out_after x.ensures.written
