-- `random_piece` meets its contract. Assumes nothing.
use mathlib.Core.List.{[]}
use native.Mathlib.Omega.{arith}
use borrow.Author.Rules.{rules}
use Rattle.model.specs.Lists.{nth}
use Rattle.model.specs.Options.{random_pieces}
use Rattle.memory_rows.specs.Lookup.{picker_in}
use Rattle.pick_state.specs.Requests.{request_of}
use Rattle.pick_state.proofs.RoomLaws.{working_marks}
use Rattle.pick_blocks.proofs.AddingLaws.{picks_in}
use Rattle.pick_visits.proofs.VisitLaws.{picks_sound, flag_wanted, flag_beside}
use Rattle.pick_lap.proofs.PieceLaws.{piece_walked}
use Rattle.pick_lap.proofs.visits.random_piece.Goals as goal

pub add_blocks-after-requires : goal.add_blocks-after-requires
add_blocks-after-requires c = record {
  picks = c.requires.picks;
  piece_room = flag_beside random_pieces c.flagged-work.result c.flagged-work.ensures c.requires.piece_room;
  left_nonzero = (flag_wanted random_pieces c.args.x.work c.flagged-work.result c.flagged-work.ensures c.requires.le_left.0, c.requires.le_left.1);
}

pub bounds-ignored-i : goal.bounds-ignored-i
bounds-ignored-i c = omega (
  arith,
  (c.add_blocks-after.ensures []).did.long_ignored,
  (working_marks c.requires.piece_room.underway.working).0,
  c.requires.le_left.1,
  c.requires.picks.asked.stands.bounds.spans.in_words.sizes.many,
)

pub marked_now-marks-requires : goal.marked_now-marks-requires
marked_now-marks-requires c = c.requires.le_left.2

pub onward-place-requires : goal.onward-place-requires
onward-place-requires c = omega (arith, c.requires.le_left.1, c.requires.picks.asked.stands.bounds.spans.in_words.sizes.many)

pub shape_of-out : goal.shape_of-out
shape_of-out c = (c.add_blocks-after.ensures []).did.kept.long

pub shape_of-aside : goal.shape_of-aside
shape_of-aside c = (c.add_blocks-after.ensures []).did.long_aside

pub shape_of-ignored : goal.shape_of-ignored
shape_of-ignored c = (c.add_blocks-after.ensures []).did.long_ignored

pub returns : goal.returns
unfolding nth
returns c = piece_walked (request_of c.args.q c.args.bytes.now) c.args.start c.args.s c.args.words.now c.args.cells.now
    (picker_in c.args.live c.args.rows.now c.args.words.now c.args.cells.now) (picks_in c.requires.picks) (picks_sound c.requires.picks) c.args.x c.arrive.result
    c.args.out.now c.args.aside.now c.args.ignored.now c.flagged-work.result c.add_blocks-after.result _ _ _ c.flagged-work.ensures c.add_blocks-after.ensures c.marked_now-marks.result c.onward-place.result
    c.arrive.ensures c.marked_now-marks.ensures c.onward-place.ensures c.requires.le_left.0 c.requires.le_left.1 c.requires.unmarked.0 c.requires.unmarked.1
