-- `take_image_core` meets its contract: each return is an arm of taking the image. Assumes nothing.
use Rattle.image_pieces.proofs.PassedOn.{passed_on}
use Rattle.picker_images.proofs.TakingLaws.{stood_live, barred, asked, taken_or_short}
use Rattle.picker_images.proofs.taking.take_image_core.Goals as goal

pub returns-in_err-s : goal.returns-in_err-s
returns-in_err-s c = let k = c.admit in
    rw (passed_on c.from_residual.result c.in_err-s.field-0.0 c.from_residual.ensures.1)
    (barred _ _ _ _ _ _ k.result k.ensures _ c.in_err-s.was)

pub take_image-requires : goal.take_image-requires
take_image-requires c = let k = c.admit in
    asked _ _ _ _ _ _ _ (stood_live _ _ _ _ _ k.result k.ensures _ c.in_ok-s.was _ c.live_records-live.ensures)

pub returns : goal.returns
returns c = let k = c.admit in
    taken_or_short _ _ _ _ _ _ _ _
    (stood_live _ _ _ _ _ k.result k.ensures _ c.in_ok-s.was _ c.live_records-live.ensures)
    _ c.take_image.result c.take_image.ensures _ c.ok_or.ensures.value
