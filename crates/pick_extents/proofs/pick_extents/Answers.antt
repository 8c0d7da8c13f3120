-- `pick_extents` meets its contract. Assumes nothing.
use Rattle.pick_state.specs.Requests.{request_of}
use Rattle.pick_extents.specs.Extents.{first_walk}
use Rattle.pick_extents.proofs.ExtentLaws.{extents_long}
use Rattle.pick_extents.proofs.MoveLaws.{extents_moved}
use Rattle.pick_extents.proofs.pick_extents.Goals as goal

pub walk_extents-x-requires : goal.walk_extents-x-requires
walk_extents-x-requires c = record {
  picks = c.requires.picks;
  piece_room = c.requires.piece_room;
  le_left = c.requires.le_left;
}

pub forget_extent-requires : goal.forget_extent-requires
forget_extent-requires c = record {
  words_span = c.requires.picks.asked.stands.bounds.spans.in_words;
  place_bound = (c.walk_extents-x.ensures.found_below.below, c.requires.picks.asked.stands.bounds.recent_extents);
}

pub shape_of-words : goal.shape_of-words
shape_of-words c = c.forget_extent.ensures.became.kept.long

pub shape_of-out : goal.shape_of-out
unfolding first_walk
shape_of-out c = (extents_long c.walk_extents-x.ensures.extents_beside c.requires.piece_room).0

pub shape_of-aside : goal.shape_of-aside
unfolding first_walk
shape_of-aside c = (extents_long c.walk_extents-x.ensures.extents_beside c.requires.piece_room).1

pub shape_of-ignored : goal.shape_of-ignored
unfolding first_walk
shape_of-ignored c = (extents_long c.walk_extents-x.ensures.extents_beside c.requires.piece_room).2

pub returns : goal.returns
returns c = extents_moved c.requires.picks (request_of c.args.q c.args.bytes.now) c.walk_extents-x.result c.walk_extents-x.ensures.extents_beside c.forget_extent.ensures
