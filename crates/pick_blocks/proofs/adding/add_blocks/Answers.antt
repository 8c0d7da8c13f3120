-- `add_blocks` meets its contract. Assumes nothing.
use Rattle.pick_blocks.proofs.AddingLaws.{standing_worked, other_worked}
use Rattle.pick_blocks.proofs.AddingLaws.{run_worked, open_yes, open_no, downloading_told, picks_in, new_room, ignored_worked, open_worked}
use Rattle.pick_state.proofs.RoomLaws.{working_marks}
use Rattle.pick_state.specs.Requests.{request_of}
use Rattle.memory_rows.specs.Lookup.{picker_in}
use Rattle.memory_records.specs.Rows.{records_in}
use Rattle.model.specs.State.{piece_at}
use Rattle.model.specs.Lists.{nth}
use mathlib.Core.List.{[]}
use mathlib.Core.Bool.{true, false}
use native.Mathlib.Omega.{arith}
use borrow.Author.Rules.{rules}
use Rattle.pick_blocks.proofs.adding.add_blocks.Goals as goal

pub bounds-ignored-i : goal.bounds-ignored-i
bounds-ignored-i c = omega (arith, (working_marks c.requires.piece_room.underway.working).0, c.requires.left_nonzero.1, c.requires.picks.asked.stands.bounds.spans.in_words.sizes.many)

pub returns-then-ignored-i : goal.returns-then-ignored-i
unfolding nth
returns-then-ignored-i c loops = let d = picker_in c.args.live c.args.rows.now c.args.words.now c.args.cells.now in
    ignored_worked (request_of c.args.q c.args.bytes.now) c.args.i d c.args.t c.args.out.now c.args.aside.now c.args.ignored.now loops c.if-ignored-i.true c.requires.piece_room.underway.working.within

pub state-number-requires : goal.state-number-requires
state-number-requires c = record {
  cells_span = c.requires.picks.asked.stands.bounds.spans.in_cells;
  i_lt_pieces = c.requires.left_nonzero.1;
}

pub add_open-requires : goal.add_open-requires
add_open-requires c = record {
  new_room = new_room c.requires.picks c.requires.piece_room.underway c.requires.left_nonzero.0;
  i_lt_pieces = c.requires.left_nonzero.1;
}

pub shape_of-out-then-number-eq4 : goal.shape_of-out-then-number-eq4
shape_of-out-then-number-eq4 c = (c.add_open.ensures []).kept.long

pub shape_of-ignored-then-number-eq4 : goal.shape_of-ignored-then-number-eq4
shape_of-ignored-then-number-eq4 c = (c.add_open.ensures []).marks

pub returns-then-number-eq4 : goal.returns-then-number-eq4
unfolding nth
returns-then-number-eq4 c loops = let d = picker_in c.args.live c.args.rows.now c.args.words.now c.args.cells.now in
    let e = c.state-number.ensures.is (records_in c.args.live c.args.rows.now) c.args.words.now c.requires.picks.asked.stands.bounds in
    let k = (piece_at d c.args.i).state in
    let p = new_room c.requires.picks c.requires.piece_room.underway c.requires.left_nonzero.0 in
    open_worked (request_of c.args.q c.args.bytes.now) c.args.i d c.args.t c.args.out.now c.args.aside.now c.args.ignored.now loops c.if-ignored-i.false
    (open_yes k c.state-number.result e c.if-number-eq4.true)
    (run_worked (c.add_open.ensures loops) d c.args.aside.now (picks_in c.requires.picks) p.room)

pub add_standing-requires : goal.add_standing-requires
add_standing-requires c = record {
  picks = c.requires.picks;
  partial_room = record { ignored = c.args.ignored.now; loops = c.requires.piece_room.loops; underway = c.requires.piece_room.underway };
  left_nonzero = c.requires.left_nonzero.0;
}

pub shape_of-out-then-is_downloading : goal.shape_of-out-then-is_downloading
shape_of-out-then-is_downloading c = (c.add_standing.ensures [] []).did.kept.long

pub shape_of-aside-then-is_downloading : goal.shape_of-aside-then-is_downloading
shape_of-aside-then-is_downloading c = (c.add_standing.ensures [] []).did.long_aside

pub returns-then-is_downloading : goal.returns-then-is_downloading
unfolding nth
returns-then-is_downloading c loops = let d = picker_in c.args.live c.args.rows.now c.args.words.now c.args.cells.now in
    let e = c.state-number.ensures.is (records_in c.args.live c.args.rows.now) c.args.words.now c.requires.picks.asked.stands.bounds in
    let k = (piece_at d c.args.i).state in
    standing_worked (request_of c.args.q c.args.bytes.now) c.args.i d c.args.t c.args.out.now c.args.aside.now c.args.ignored.now loops c.if-ignored-i.false
    (open_no k c.state-number.result e c.if-number-eq4.false) (downloading_told k c.state-number.result e c.is_downloading.result true c.is_downloading.ensures c.if-is_downloading.true)
    (c.add_standing.ensures c.args.ignored.now loops)

pub returns : goal.returns
unfolding nth
returns c loops = let d = picker_in c.args.live c.args.rows.now c.args.words.now c.args.cells.now in
    let e = c.state-number.ensures.is (records_in c.args.live c.args.rows.now) c.args.words.now c.requires.picks.asked.stands.bounds in
    let k = (piece_at d c.args.i).state in
    other_worked (request_of c.args.q c.args.bytes.now) c.args.i d c.args.t c.args.out.now c.args.aside.now c.args.ignored.now loops c.if-ignored-i.false
    (open_no k c.state-number.result e c.if-number-eq4.false) (downloading_told k c.state-number.result e c.is_downloading.result false c.is_downloading.ensures c.if-is_downloading.false) c.requires.piece_room.underway.working.within
