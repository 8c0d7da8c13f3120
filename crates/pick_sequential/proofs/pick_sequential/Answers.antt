-- `pick_sequential` meets its contract. Assumes nothing.
use mathlib.Core.Path.{◌∙◌}
use Rattle.pick_state.specs.Requests.{request_of}
use Rattle.pick_free.proofs.FreeLaws.{above_none}
use Rattle.pick_visits.proofs.StepLaws.{stepped_lengths, stepped_room}
use Rattle.pick_visits.proofs.ListLaws.{sequential_stop, sequential_on}
use Rattle.pick_sequential.proofs.pick_sequential.Goals as goal

pub walk_top-top-requires : goal.walk_top-top-requires
walk_top-top-requires c = record {
  picks = c.requires.picks;
  piece_room = c.requires.piece_room;
  le_left = c.requires.le_left;
}

pub shape_of-out-then-top-eq0 : goal.shape_of-out-then-top-eq0
shape_of-out-then-top-eq0 c = (stepped_lengths c.walk_top-top.ensures c.requires.piece_room).0

pub shape_of-aside-then-top-eq0 : goal.shape_of-aside-then-top-eq0
shape_of-aside-then-top-eq0 c = (stepped_lengths c.walk_top-top.ensures c.requires.piece_room).1

pub shape_of-ignored-then-top-eq0 : goal.shape_of-ignored-then-top-eq0
shape_of-ignored-then-top-eq0 c = (stepped_lengths c.walk_top-top.ensures c.requires.piece_room).2

pub returns-then-top-eq0 : goal.returns-then-top-eq0
returns-then-top-eq0 c = sequential_stop (request_of c.args.q c.args.bytes.now) c.walk_top-top.ensures c.if-top-eq0.true

pub pick_range-requires : goal.pick_range-requires
pick_range-requires c = record {
  picks = c.requires.picks;
  piece_room = stepped_room c.walk_top-top.ensures c.requires.piece_room;
  le_left = above_none c.walk_top-top.result.left c.if-top-eq0.false;
}

pub shape_of-out : goal.shape_of-out
shape_of-out c = (stepped_lengths c.pick_range.ensures (stepped_room c.walk_top-top.ensures c.requires.piece_room)).0 ∙ (stepped_lengths c.walk_top-top.ensures c.requires.piece_room).0

pub shape_of-aside : goal.shape_of-aside
shape_of-aside c = (stepped_lengths c.pick_range.ensures (stepped_room c.walk_top-top.ensures c.requires.piece_room)).1 ∙ (stepped_lengths c.walk_top-top.ensures c.requires.piece_room).1

pub shape_of-ignored : goal.shape_of-ignored
shape_of-ignored c = (stepped_lengths c.pick_range.ensures (stepped_room c.walk_top-top.ensures c.requires.piece_room)).2 ∙ (stepped_lengths c.walk_top-top.ensures c.requires.piece_room).2

pub returns : goal.returns
returns c = sequential_on (request_of c.args.q c.args.bytes.now) c.walk_top-top.ensures c.if-top-eq0.false c.pick_range.ensures
