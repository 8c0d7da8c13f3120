-- `places_ok` meets its contract: after k records, all passed, the marks are their places. Assumes nothing.
use Prim.Native.Nat.{◌≤◌, ◌-◌}
use native.Mathlib.Omega.{arith}
use mathlib.Core.Path.{◌≡◌}
use Rattle.memory_records.specs.Rows.{records_in}
use Rattle.memory_layout.specs.Offsets.{places_for}
use Rattle.memory_layout.specs.Decode.{pieces_on}
use Rattle.memory_layout.proofs.OffsetLaws.{places_min}
use Rattle.check_partials.proofs.PlaceLaws.{live_place, Marked, marked_start, marked_end, marked_beyond, marked_twice, marked_next}
use Rattle.check_partials.proofs.PlaceLaws.{places_is, places_many}
use borrow.Author.Rules.{rules}
use Rattle.check_partials.proofs.places.places_ok.Goals as goal

pub loop-k-init : goal.loop-k-init
loop-k-init c = (
  omega arith,
  places_many _ _ c.requires.shape_of,
  omega
      (arith, c.requires.shape_of.sizes.places, places_min c.args.s.pieces),
  marked_start _ _,
)

pub row-record-requires : goal.row-record-requires
row-record-requires c = (
  omega (
    arith,
    c.requires.live_value.1,
    c.requires.shape_of.sizes.places,
    places_min c.args.s.pieces,
  ),
  c.requires.live_value.2,
)

pub returns-then-many-place : goal.returns-then-many-place
returns-then-many-place c = places_is _ _ _ c.requires.live_value.0 _
    (marked_beyond _ _ _ _ c.loop-k.invariant.3 _ (omega arith) _
    (live_place _ _ _ (omega arith) _ c.row-record.ensures _ c.u32_to_usize-place.ensures)
    (omega (arith, c.loop-k.invariant.1)))

pub bounds-marks-place : goal.bounds-marks-place
bounds-marks-place c = omega (arith, c.loop-k.invariant.2, c.loop-k.invariant.3.size)

pub returns-then-marks-place : goal.returns-then-marks-place
returns-then-marks-place c = places_is _ _ _ c.requires.live_value.0 _
    (marked_twice _ _ _ _ c.loop-k.invariant.3 _ (omega arith) _
    (live_place _ _ _ (omega arith) _ c.row-record.ensures _ c.u32_to_usize-place.ensures)
    (omega (arith, c.loop-k.invariant.2)) c.if-marks-place.true)

pub bounds-marks-place-in-loop-k : goal.bounds-marks-place-in-loop-k
bounds-marks-place-in-loop-k c = omega (
  arith,
  c.loop-k.invariant.2,
  c.loop-k.invariant.3.size,
)

pub loop-k-preserved : goal.loop-k-preserved
loop-k-preserved c = (
  omega arith,
  c.loop-k.invariant.1,
  c.loop-k.invariant.2,
  marked_next _ _ _ _ c.loop-k.invariant.3
      c.args.live (omega arith) _
      (live_place _ _ _ (omega arith) _ c.row-record.ensures _ c.u32_to_usize-place.ensures)
      (omega (arith, c.loop-k.invariant.2))
      (omega (arith, c.loop-k.invariant.1)) c.if-marks-place.false,
)

pub returns : goal.returns
returns c = places_is _ _ _ c.requires.live_value.0 _
    (marked_end _ _ _ _ _ c.loop-k.invariant.3 (omega arith))
