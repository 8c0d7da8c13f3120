-- `pick_range` meets its contract. Assumes nothing.
use mathlib.Core.Path.{sym, ◌∙◌}
use borrow.Author.Rules.{rules}
use Rattle.model.specs.pick.Blocks.{option}
use Rattle.pick_state.specs.Requests.{request_of}
use Rattle.pick_visits.proofs.StepLaws.{stepped_lengths}
use Rattle.pick_visits.proofs.ListLaws.{range_down_lem, range_up}
use Rattle.pick_sequential.proofs.pick_range.Goals as goal

pub walk_down-requires : goal.walk_down-requires
walk_down-requires c = record {
  picks = c.requires.picks;
  piece_room = c.requires.piece_room;
  le_left = c.requires.le_left;
}

pub shape_of-out-then-contains : goal.shape_of-out-then-contains
shape_of-out-then-contains c = (stepped_lengths c.walk_down.ensures c.requires.piece_room).0

pub shape_of-aside-then-contains : goal.shape_of-aside-then-contains
shape_of-aside-then-contains c = (stepped_lengths c.walk_down.ensures c.requires.piece_room).1

pub shape_of-ignored-then-contains : goal.shape_of-ignored-then-contains
shape_of-ignored-then-contains c = (stepped_lengths c.walk_down.ensures c.requires.piece_room).2

pub returns-then-contains : goal.returns-then-contains
unfolding option request_of
returns-then-contains c = range_down_lem (request_of c.args.q c.args.bytes.now) (sym c.contains.ensures ∙ c.if-contains.true) c.walk_down.ensures

pub walk_up-requires : goal.walk_up-requires
walk_up-requires c = record {
  picks = c.requires.picks;
  piece_room = c.requires.piece_room;
  le_left = c.requires.le_left;
}

pub shape_of-out : goal.shape_of-out
shape_of-out c = (stepped_lengths c.walk_up.ensures c.requires.piece_room).0

pub shape_of-aside : goal.shape_of-aside
shape_of-aside c = (stepped_lengths c.walk_up.ensures c.requires.piece_room).1

pub shape_of-ignored : goal.shape_of-ignored
shape_of-ignored c = (stepped_lengths c.walk_up.ensures c.requires.piece_room).2

pub returns : goal.returns
unfolding option request_of
returns c = range_up (request_of c.args.q c.args.bytes.now) (sym c.contains.ensures ∙ c.if-contains.false) c.walk_up.ensures
