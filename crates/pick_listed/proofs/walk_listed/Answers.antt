-- `walk_listed` meets its contract. Assumes nothing.
use mathlib.Core.Path.{refl, sym, ◌∙◌}
use borrow.Author.Rules.{rules}
use Rattle.model.specs.pick.Blocks.{option}
use Rattle.pick_state.specs.Requests.{request_of}
use Rattle.pick_free.proofs.FreeLaws.{above_none}
use Rattle.pick_visits.proofs.VisitLaws.{beside}
use Rattle.pick_rarest.proofs.RarestLaws.{risen_none}
use Rattle.pick_listed.proofs.ListedLaws.{listed_stop, listed_on, listed_rarest}
use Rattle.pick_listed.proofs.walk_listed.Goals as goal

pub pick_sequential-u-requires : goal.pick_sequential-u-requires
pick_sequential-u-requires c = record {
  picks = c.requires.picks;
  piece_room = beside c.requires.underway;
  le_left = c.requires.le_left.0;
}

pub shape_of-out-then-u-eq0 : goal.shape_of-out-then-u-eq0
shape_of-out-then-u-eq0 c = (c.pick_sequential-u.ensures c.args.loops.now c.requires.underway).did.kept.long

pub shape_of-aside-then-u-eq0 : goal.shape_of-aside-then-u-eq0
shape_of-aside-then-u-eq0 c = (c.pick_sequential-u.ensures c.args.loops.now c.requires.underway).did.long_aside

pub shape_of-ignored-then-u-eq0 : goal.shape_of-ignored-then-u-eq0
shape_of-ignored-then-u-eq0 c = (c.pick_sequential-u.ensures c.args.loops.now c.requires.underway).did.long_ignored

pub returns-then-u-eq0 : goal.returns-then-u-eq0
unfolding option request_of
returns-then-u-eq0 c = let r = request_of c.args.q c.args.bytes.now in
    let e = sym c.contains.ensures ∙ c.if-contains.true in
    record {
      moved = listed_stop c.requires.picks r e (c.pick_sequential-u.ensures c.args.loops.now c.requires.underway) c.if-u-eq0.true;
      risen = risen_none 4096 c.args.loops.now;
    }

pub pick_rarest-requires : goal.pick_rarest-requires
pick_rarest-requires c = let x = c.pick_sequential-u.ensures c.args.loops.now c.requires.underway in
    record {
      picks = c.requires.picks;
      underway = x.underway;
      le_left = (above_none c.pick_sequential-u.result.left c.if-u-eq0.false, c.requires.le_left.1, c.requires.le_left.2);
    }

pub shape_of-words-then-contains : goal.shape_of-words-then-contains
shape_of-words-then-contains c = c.pick_rarest.ensures.moved.words_kept.long

pub shape_of-out-then-contains : goal.shape_of-out-then-contains
shape_of-out-then-contains c = c.pick_rarest.ensures.moved.kept.long ∙ (c.pick_sequential-u.ensures c.args.loops.now c.requires.underway).did.kept.long

pub shape_of-aside-then-contains : goal.shape_of-aside-then-contains
shape_of-aside-then-contains c = c.pick_rarest.ensures.moved.long_aside ∙ (c.pick_sequential-u.ensures c.args.loops.now c.requires.underway).did.long_aside

pub shape_of-ignored-then-contains : goal.shape_of-ignored-then-contains
shape_of-ignored-then-contains c = c.pick_rarest.ensures.moved.long_ignored ∙ (c.pick_sequential-u.ensures c.args.loops.now c.requires.underway).did.long_ignored

pub shape_of-loops-then-contains : goal.shape_of-loops-then-contains
shape_of-loops-then-contains c = c.pick_rarest.ensures.moved.long_loops

pub returns-then-contains : goal.returns-then-contains
unfolding option request_of
returns-then-contains c = let r = request_of c.args.q c.args.bytes.now in
    let e = sym c.contains.ensures ∙ c.if-contains.true in
    let x = c.pick_sequential-u.ensures c.args.loops.now c.requires.underway in
    record {
      moved = listed_on c.requires.picks r e x c.if-u-eq0.false c.pick_rarest.ensures.moved;
      risen = c.pick_rarest.ensures.risen;
    }

pub pick_rarest-requires-2 : goal.pick_rarest-requires-2
pick_rarest-requires-2 c = record {
  picks = c.requires.picks;
  underway = c.requires.underway;
  le_left = c.requires.le_left;
}

pub shape_of-words : goal.shape_of-words
shape_of-words c = c.pick_rarest-2.ensures.moved.words_kept.long

pub shape_of-out : goal.shape_of-out
shape_of-out c = c.pick_rarest-2.ensures.moved.kept.long

pub shape_of-aside : goal.shape_of-aside
shape_of-aside c = c.pick_rarest-2.ensures.moved.long_aside

pub shape_of-ignored : goal.shape_of-ignored
shape_of-ignored c = c.pick_rarest-2.ensures.moved.long_ignored

pub shape_of-loops : goal.shape_of-loops
shape_of-loops c = c.pick_rarest-2.ensures.moved.long_loops

pub returns : goal.returns
unfolding option request_of
returns c = let r = request_of c.args.q c.args.bytes.now in
    let e = sym c.contains.ensures ∙ c.if-contains.false in
    record {
      moved = listed_rarest r e c.requires.le_left.0 c.pick_rarest-2.ensures.moved;
      risen = c.pick_rarest-2.ensures.risen;
    }
