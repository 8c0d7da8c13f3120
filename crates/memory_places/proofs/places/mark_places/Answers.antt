-- `mark_places` meets its contract: the places of the first k rows are marked. Assumes nothing.
use native.Mathlib.Omega.{arith}
use mathlib.Core.Path.{ap, ◌∙◌}
use Rattle.memory_records.specs.declared.record.DownloadingPiece.{DownloadingPiece as Record}
use Rattle.memory_places.proofs.PlaceLaws.{marked_start, marked_next, marked_end}
use Rattle.memory_places.proofs.places.mark_places.Goals as goal

pub loop-k-init : goal.loop-k-init
loop-k-init c = (omega arith, marked_start _ _ c.requires.marked)

pub bounds-marks-place : goal.bounds-marks-place
bounds-marks-place c = let place = c.u32_to_usize-place.ensures ∙ ap (λ (x : Record). x.info_idx) c.row-record.ensures in
    omega (
      arith,
      place,
      c.requires.places_below c.loop-k.k (omega arith),
      c.loop-k.invariant.1.long,
    )

pub loop-k-preserved : goal.loop-k-preserved
loop-k-preserved c = let place = c.u32_to_usize-place.ensures ∙ ap (λ (x : Record). x.info_idx) c.row-record.ensures in (
  omega arith,
  marked_next _ _ _ _ c.loop-k.invariant.1 place
      (omega (arith, place, c.requires.places_below c.loop-k.k (omega arith))),
)

pub returns : goal.returns
returns c = marked_end _ _ _ _ c.loop-k.invariant.1 (omega arith)
