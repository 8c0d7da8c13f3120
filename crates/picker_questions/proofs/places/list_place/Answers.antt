-- `list_place` meets its contract. Assumes nothing.
-- Written by tools/public_answers.py, and not by hand.
use mir.Syntax.{w32}
use mir.ValLaws.{to_z-of_z}
use Rattle.picker_calls.proofs.PublicLaws.{rows_are}
use Rattle.picker_questions.proofs.places.list_place.Goals as goal

pub returns : goal.returns
returns c =
    let t = rows_are _ _ _ _ _ c.live_records-live.ensures c.unpack-lent.ensures in
    let k = rw (to_z-of_z w32 c.args.place c.ranges.place) at c.list_place_core.ensures in
    k.is _ t.0 t.1
