-- `pick_partials` meets its contract. Assumes nothing.
use Rattle.pick_partials.proofs.PhaseLaws.{first_no, first_yes, phase_none, phase_some, steps_risen, risen_none, marks_room}
use Rattle.memory_rows.specs.Lookup.{picker_in}
use Rattle.pick_state.specs.Requests.{request_of}
use Rattle.pick_state.proofs.RoomLaws.{working_marks}
use mathlib.Core.Path.{refl}
use native.Mathlib.Omega.{arith}
use borrow.Author.Rules.{rules}
use Rattle.pick_partials.proofs.phase.pick_partials.Goals as goal

pub returns-then-not-contains : goal.returns-then-not-contains
returns-then-not-contains c = let d = picker_in c.args.live c.args.rows.now c.args.words.now c.args.cells.now in
    let e = first_no c.args.q c.args.bytes.now _ c.contains.ensures c.if-not-contains.true-raw in
    record {
      stepped_unmarked = phase_none (request_of c.args.q c.args.bytes.now) d e;
      risen = risen_none 512 _;
    }

pub scan_partials-found-requires : goal.scan_partials-found-requires
scan_partials-found-requires c = record {
  picks = c.requires.picks;
  places_len = refl;
}

pub count_steps-requires : goal.count_steps-requires
count_steps-requires c = let l = (working_marks c.requires.marks_room.underway.working).1 in
    (omega arith, c.requires.le_left.1, c.scan_partials-found.ensures.few)

pub walk_ordered-requires : goal.walk_ordered-requires
walk_ordered-requires c = record {
  picks = c.requires.picks;
  counts_held = c.requires.counts_held;
  partial_room = marks_room c.requires.marks_room;
  le_left = (c.requires.le_left.0, c.scan_partials-found.ensures.places);
}

pub shape_of-out : goal.shape_of-out
shape_of-out c = c.walk_ordered.auto.out

pub shape_of-aside : goal.shape_of-aside
shape_of-aside c = c.walk_ordered.auto.aside

pub shape_of-loops : goal.shape_of-loops
shape_of-loops c = c.count_steps.auto.loops

pub returns : goal.returns
returns c = let d = picker_in c.args.live c.args.rows.now c.args.words.now c.args.cells.now in
    let e = first_yes c.args.q c.args.bytes.now _ c.contains.ensures c.if-not-contains.false-raw in
    let l = (working_marks c.requires.marks_room.underway.working).1 in
    record {
      stepped_unmarked = phase_some (request_of c.args.q c.args.bytes.now) d e _ c.scan_partials-found.ensures.steps _ c.scan_partials-found.ensures.is c.count_steps.ensures c.walk_ordered.ensures;
      risen = steps_risen 0 c.scan_partials-found.result.downloading c.args.loops.now _ c.count_steps.ensures 512 c.scan_partials-found.ensures.few (omega arith);
    }
