-- `add_standing` meets its contract. Assumes nothing.
use Rattle.pick_blocks.proofs.AddingLaws.{blocks_worked, partial_room}
use mathlib.Core.List.{[]}
use Rattle.pick_blocks.proofs.AddingLaws.{prioritized_worked, missing_worked, found_worked}
use Rattle.pick_state.specs.Requests.{request_of}
use Rattle.ask_picker.proofs.AskedLaws.{asked_rows, asked_queues, asked_rise}
use Rattle.memory_rows.specs.Lookup.{FoundIn, picker_in}
use Rattle.model.specs.pick.Blocks.{option}
use mathlib.Core.Path.{sym, subst, ◌∙◌}
use borrow.Author.Rules.{rules}
use Rattle.pick_blocks.proofs.standing.add_standing.Goals as goal

pub returns-then-contains : goal.returns-then-contains
unfolding option request_of
returns-then-contains c ignored loops = let d = picker_in c.args.live c.args.rows.now c.args.words.now c.args.cells.now in
    prioritized_worked (request_of c.args.q c.args.bytes.now) c.args.i d c.args.t c.args.out.now c.args.aside.now ignored loops (sym c.contains.ensures ∙ c.if-contains.true) c.requires.partial_room.underway.working.within

pub find-requires : goal.find-requires
find-requires c = record {
  live_bound = ((asked_queues c.args.s c.args.live c.args.rows.now c.args.words.now c.args.cells.now c.requires.picks.asked).few, c.requires.picks.asked.wide);
  rows_value = asked_rise c.args.s c.args.live c.args.rows.now c.args.words.now c.args.cells.now c.requires.picks.asked;
}

pub returns-in_default : goal.returns-in_default
unfolding option request_of
returns-in_default c ignored loops = let d = picker_in c.args.live c.args.rows.now c.args.words.now c.args.cells.now in
    let f = subst (FoundIn c.args.live c.args.rows.now c.args.i) c.in_default.is c.find.ensures.picker in
    missing_worked (request_of c.args.q c.args.bytes.now) c.args.i d c.args.t c.args.out.now c.args.aside.now ignored loops (sym c.contains.ensures ∙ c.if-contains.false)
    (f.is c.args.s c.args.words.now c.args.cells.now (asked_rows c.args.s c.args.live c.args.rows.now c.args.words.now c.args.cells.now c.requires.picks.asked))
    c.requires.partial_room.underway.working.within

pub add_blocks_downloading-requires : goal.add_blocks_downloading-requires
add_blocks_downloading-requires c = let f = subst (FoundIn c.args.live c.args.rows.now c.args.i) c.in-Some.is c.find.ensures.picker in
    record {
      picks = (c.requires.picks, f.row.0);
      has_room = partial_room c.requires.partial_room.underway c.requires.left_nonzero;
    }

pub shape_of-out : goal.shape_of-out
shape_of-out c = (c.add_blocks_downloading.ensures.is (picker_in c.args.live c.args.rows.now c.args.words.now c.args.cells.now) [] []).kept.long

pub shape_of-aside : goal.shape_of-aside
shape_of-aside c = (c.add_blocks_downloading.ensures.is (picker_in c.args.live c.args.rows.now c.args.words.now c.args.cells.now) [] []).long_aside

pub returns : goal.returns
unfolding option request_of
returns c ignored loops = let d = picker_in c.args.live c.args.rows.now c.args.words.now c.args.cells.now in
    let f = subst (FoundIn c.args.live c.args.rows.now c.args.i) c.in-Some.is c.find.ensures.picker in
    let m = partial_room c.requires.partial_room.underway c.requires.left_nonzero in
    found_worked (request_of c.args.q c.args.bytes.now) c.args.i d c.args.t c.args.out.now c.args.aside.now ignored loops (sym c.contains.ensures ∙ c.if-contains.false) _
    (f.is c.args.s c.args.words.now c.args.cells.now (asked_rows c.args.s c.args.live c.args.rows.now c.args.words.now c.args.cells.now c.requires.picks.asked)).1
    (blocks_worked c.add_blocks_downloading.ensures m.room d ignored loops)
