-- `scan_partials` meets its contract. Assumes nothing.
use Rattle.pick_scan.proofs.FoundLaws.{Scanning, scan_start, counted_few, scan_next, scan_end}
use Rattle.memory_rows.specs.Lookup.{picker_in}
use Rattle.memory_rows.proofs.RisingLaws.{live_number}
use Rattle.ask_picker.proofs.AskedLaws.{asked_rows, asked_queues}
use Rattle.pick_state.specs.Requests.{request_of}
use native.Mathlib.Omega.{arith}
use Prim.Native.Nat.{◌-◌}
use borrow.Author.Rules.{rules}
use Rattle.pick_scan.proofs.found.scan_partials.Goals as goal

pub loop-k-init : goal.loop-k-init
loop-k-init c = scan_start _ _ _ _ c.requires.places_len

pub is_downloading-listed-requires : goal.is_downloading-listed-requires
is_downloading-listed-requires c = record {
  asked = c.requires.picks.asked;
  k_lt_live = c.loop-k-test.true;
}

pub is_usable-usable-requires : goal.is_usable-usable-requires
is_usable-usable-requires c = record {
  picks = c.requires.picks;
  k_lt_live = c.loop-k-test.true;
}

pub push-n-requires : goal.push-n-requires
push-n-requires c = let few = (asked_queues _ _ _ _ _ c.requires.picks.asked).few in
    (omega arith, omega arith)

pub one_more-downloading-requires : goal.one_more-downloading-requires
one_more-downloading-requires c = omega (
  arith,
  (asked_queues _ _ _ _ _ c.requires.picks.asked).few,
  (counted_few _ _ _ _ _ _ _ c.loop-k.invariant).0,
  c.loop-k-test.true,
)

pub loop-k-preserved : goal.loop-k-preserved
loop-k-preserved c = scan_next _ _ _ _ _ _ _ c.loop-k.invariant c.loop-k-test.true
    (asked_queues _ _ _ _ _ c.requires.picks.asked).few _ c.is_downloading-listed.ensures _
    c.is_usable-usable.ensures _ c.push-n.ensures.row_after _ c.push-n.ensures.value _ c.one_more-downloading.ensures

pub returns : goal.returns
returns c = scan_end _ _ _ (live_number _ _ _ _ _ (asked_rows _ _ _ _ _ c.requires.picks.asked)) (asked_queues _ _ _ _ _ c.requires.picks.asked).few _ _ _ _ c.loop-k.invariant
    c.loop-k-test.false
