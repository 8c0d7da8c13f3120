-- `admit_list` meets its contract. Assumes nothing.
use mathlib.Core.Path.{refl}
use mathlib.Core.Option.{none}
use Rattle.picker_calls.specs.Calling.{of_memory}
use Rattle.picker_lists.proofs.RoomLaws.{roomy, list_refused, list_admitted}
use borrow.Author.Rules.{rules}
use Rattle.picker_lists.proofs.admitted.admit_list.Goals as goal

pub returns-in_err-shape : goal.returns-in_err-shape
unfolding of_memory
returns-in_err-shape c = let k = c.admit_room in
    list_refused _ _ (λ d. none) (λ d. refl) _ _ _ _ _ _ k.result k.ensures _ c.in_err-shape.was _ c.from_residual.ensures.1

pub returns : goal.returns
unfolding of_memory
returns c = let k = c.admit_room in
    let at = c.in_ok-shape.was in
    list_admitted _ _ (λ d. none) (λ d. refl) _ _ _ _ _ _ k.result k.ensures _ at refl
    (roomy _ _ _ _ _ _ _ k.result k.ensures _ at).enough _ c.live_records.ensures
