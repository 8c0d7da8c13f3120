-- `admit_room` meets its contract. Assumes nothing.
use mathlib.Core.Path.{sym, ◌∙◌}
use Rattle.picker_calls.proofs.AdmissionLaws.{good_long, good_geometry}
use Rattle.picker_lists.proofs.RoomLaws.{room_short, verdict_refused, verdict_good}
use borrow.Author.Rules.{rules}
use Rattle.picker_lists.proofs.rooms.admit_room.Goals as goal

pub returns-then-short_room : goal.returns-then-short_room
returns-then-short_room c = room_short _ _ _ _ _ _ _ (sym c.short_room.ensures ∙ c.if-short_room.true)

pub returns-in_err-checked : goal.returns-in_err-checked
returns-in_err-checked c = let k = c.check_memory-checked in
    verdict_refused _ _ _ _ _ _ _ k.result k.ensures _ c.in_err-checked.was
    (sym c.short_room.ensures ∙ c.if-short_room.false) _ c.from_residual.ensures.1

pub shape_of-requires : goal.shape_of-requires
shape_of-requires c = let k = c.check_memory-checked in
    let e = c.in_ok-checked.was in
    record {
      in_bounds = good_long _ _ _ _ _ k.result k.ensures e;
      words_value = good_geometry _ _ _ _ _ k.result k.ensures e;
    }

pub returns : goal.returns
returns c = let k = c.check_memory-checked in
    verdict_good _ _ _ _ _ _ _ k.result k.ensures c.in_ok-checked.was
    (sym c.short_room.ensures ∙ c.if-short_room.false) c.shape_of.result c.shape_of.ensures c.requires.0
