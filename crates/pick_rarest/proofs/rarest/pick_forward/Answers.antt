-- `pick_forward` meets its contract. Assumes nothing.
use mathlib.Core.Path.{sym, ◌∙◌}
use borrow.Author.Rules.{rules}
use Rattle.model.specs.pick.Blocks.{option}
use Rattle.pick_state.specs.Requests.{request_of}
use Rattle.pick_free.proofs.FreeLaws.{above_none}
use Rattle.pick_visits.proofs.VisitLaws.{beside}
use Rattle.pick_rarest.proofs.RarestLaws.{counted_risen, risen_none, forward_stop, forward_on, forward_list}
use Rattle.pick_rarest.proofs.rarest.pick_forward.Goals as goal

pub pick_extents-u-requires : goal.pick_extents-u-requires
pick_extents-u-requires c = record {
  picks = c.requires.picks;
  piece_room = beside c.requires.underway;
  le_left = c.requires.le_left.0;
}

pub returns-then-u-eq0 : goal.returns-then-u-eq0
unfolding option request_of
returns-then-u-eq0 c = let r = request_of c.args.q c.args.bytes.now in
    let e = sym c.contains.ensures ∙ c.if-contains.true in
    let x = c.pick_extents-u.ensures c.args.loops.now c.requires.underway in
    record {
      moved = forward_stop r e x c.if-u-eq0.true;
      risen = risen_none 4096 c.args.loops.now;
    }

pub walk_list-requires : goal.walk_list-requires
walk_list-requires c = let x = c.pick_extents-u.ensures c.args.loops.now c.requires.underway in
    record {
      picks = x.picks;
      underway = x.underway;
      le_left = (above_none c.pick_extents-u.result.left c.if-u-eq0.false, c.requires.le_left.1);
    }

pub returns-then-contains : goal.returns-then-contains
unfolding option request_of
returns-then-contains c = let r = request_of c.args.q c.args.bytes.now in
    let e = sym c.contains.ensures ∙ c.if-contains.true in
    let x = c.pick_extents-u.ensures c.args.loops.now c.requires.underway in
    record {
      moved = forward_on r e x c.if-u-eq0.false c.walk_list.ensures.stepped;
      risen = counted_risen c.walk_list.ensures.counted;
    }

pub walk_list-requires-2 : goal.walk_list-requires-2
walk_list-requires-2 c = record {
  picks = c.requires.picks;
  underway = c.requires.underway;
  le_left = c.requires.le_left;
}

pub returns : goal.returns
unfolding option request_of
returns c = let r = request_of c.args.q c.args.bytes.now in
    let e = sym c.contains.ensures ∙ c.if-contains.false in
    record {
      moved = forward_list c.requires.picks r e c.requires.le_left.0 c.walk_list-2.ensures.stepped;
      risen = counted_risen c.walk_list-2.ensures.counted;
    }
