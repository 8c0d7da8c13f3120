-- `admit_piece_list` meets its contract. Assumes nothing.
use mathlib.Core.Option.{none}
use Rattle.model.specs.Calls.{refuse_bad_piece}
use Rattle.picker_answers.proofs.AdmittedLaws.{piece_rule, piece_past, piece_there}
use Rattle.picker_lists.proofs.RoomLaws.{roomy, list_refused, list_past, list_admitted}
use borrow.Author.Rules.{rules}
use Rattle.picker_lists.proofs.admitted.admit_piece_list.Goals as goal

pub returns-then-shape-i : goal.returns-then-shape-i
returns-then-shape-i c = let k = c.admit_room in
    let at = c.in_ok-shape.was in
    let a = c.args in
    let t = (roomy _ _ _ _ _ _ _ k.result k.ensures _ at).stood.stands in
    list_past _ _ (λ d. refuse_bad_piece d a.i none) (piece_rule a.i) _ _ _ _ _ _
    k.result k.ensures _ at _
    (piece_past _ _ _ _ t a.i none c.if-shape-i.true)

pub returns-in_err-shape : goal.returns-in_err-shape
returns-in_err-shape c = let k = c.admit_room in
    let a = c.args in
    list_refused _ _ (λ d. refuse_bad_piece d a.i none) (piece_rule a.i) _ _ _ _ _ _
    k.result k.ensures _ c.in_err-shape.was _ c.from_residual.ensures.1

pub returns : goal.returns
returns c = let k = c.admit_room in
    let at = c.in_ok-shape.was in
    let a = c.args in
    let g = roomy _ _ _ _ _ _ _ k.result k.ensures _ at in
    list_admitted _ _ (λ d. refuse_bad_piece d a.i none) (piece_rule a.i) _ _ _ _ _ _
    k.result k.ensures _ at
    (piece_there _ _ _ _ g.stood.stands a.i none c.if-shape-i.false) (c.if-shape-i.false, g.enough) _
    c.live_records.ensures
