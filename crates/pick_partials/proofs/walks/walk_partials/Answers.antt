-- `walk_partials` meets its contract. Assumes nothing.
use mathlib.Core.Path.{◌∙◌}
use Rattle.pick_partials.proofs.WalkLaws.{walked_spent, walked_more, append_room, alone_room}
use Rattle.pick_free.proofs.FreeLaws.{above_none}
use Rattle.pick_visits.proofs.VisitLaws.{picks_sound}
use Rattle.pick_state.specs.Requests.{request_of}
use lib.ListN.{take}
use Rattle.pick_partials.proofs.walks.walk_partials.Goals as goal

pub walk_places-u-requires : goal.walk_places-u-requires
walk_places-u-requires c = record {
  picks = c.requires.picks;
  partial_room = c.requires.partial_room;
  le_left = c.requires.le_left;
}

pub shape_of-out-then-u-eq0 : goal.shape_of-out-then-u-eq0
shape_of-out-then-u-eq0 c = c.walk_places-u.auto.out

pub shape_of-aside-then-u-eq0 : goal.shape_of-aside-then-u-eq0
shape_of-aside-then-u-eq0 c = c.walk_places-u.auto.aside

pub returns-then-u-eq0 : goal.returns-then-u-eq0
returns-then-u-eq0 c = walked_spent (request_of c.args.q c.args.bytes.now) (take c.args.many c.args.places.now) c.walk_places-u.ensures c.if-u-eq0.true

pub append_blocks-requires : goal.append_blocks-requires
append_blocks-requires c = append_room {t = c.walk_places-u.result} (above_none _ c.if-u-eq0.false)
    (alone_room c.walk_places-u.ensures c.requires.partial_room)

pub shape_of-out : goal.shape_of-out
shape_of-out c = c.append_blocks.auto.out ∙ c.walk_places-u.auto.out

pub shape_of-aside : goal.shape_of-aside
shape_of-aside c = c.walk_places-u.auto.aside

pub returns : goal.returns
returns c = walked_more (request_of c.args.q c.args.bytes.now) (take c.args.many c.args.places.now) c.walk_places-u.ensures (picks_sound c.requires.picks) c.if-u-eq0.false
    (above_none c.walk_places-u.result.left c.if-u-eq0.false) c.append_blocks.ensures
