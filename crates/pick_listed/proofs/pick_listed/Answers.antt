-- `pick_listed` meets its contract. Assumes nothing.
use mathlib.Core.Path.{◌∙◌}
use Rattle.pick_state.specs.Requests.{request_of}
use Rattle.pick_listed.proofs.ListedLaws.{listed_asks, updated_left, updated_picks, updated_underway, updated_moved, listed_whole}
use Rattle.pick_listed.proofs.pick_listed.Goals as goal

pub with_list_updated-u-requires : goal.with_list_updated-u-requires
with_list_updated-u-requires c = let k = listed_asks c.requires.picks in record {
  list_bounds = k.0;
  ranks_right = k.1;
  used_in_bounds = c.requires.le_left.1;
}

pub walk_listed-requires : goal.walk_listed-requires
walk_listed-requires c = record {
  picks = updated_picks c.requires.picks c.args.draws.now c.args.t c.with_list_updated-u.result.used c.with_list_updated-u.ensures.list_became;
  underway = updated_underway c.requires.picks c.args.draws.now c.args.t c.with_list_updated-u.result.used c.with_list_updated-u.ensures.list_became c.with_list_updated-u.result c.with_list_updated-u.ensures.value c.requires.underway;
  le_left = (updated_left c.args.t c.with_list_updated-u.result.used c.with_list_updated-u.result c.with_list_updated-u.ensures.value c.requires.le_left.0, c.requires.le_left.2, c.requires.le_left.3);
}

pub shape_of-words : goal.shape_of-words
shape_of-words c = c.walk_listed.ensures.moved.words_kept.long ∙ c.with_list_updated-u.ensures.list_became.became.words_kept.long

pub shape_of-out : goal.shape_of-out
shape_of-out c = c.walk_listed.ensures.moved.kept.long

pub shape_of-aside : goal.shape_of-aside
shape_of-aside c = c.walk_listed.ensures.moved.long_aside

pub shape_of-ignored : goal.shape_of-ignored
shape_of-ignored c = c.walk_listed.ensures.moved.long_ignored

pub shape_of-loops : goal.shape_of-loops
shape_of-loops c = c.walk_listed.ensures.moved.long_loops

pub returns : goal.returns
returns c = let x = updated_moved c.requires.picks c.args.draws.now c.args.t c.with_list_updated-u.result.used c.with_list_updated-u.ensures.list_became c.with_list_updated-u.result c.with_list_updated-u.ensures.value c.requires.underway in
    record {
      moved = listed_whole c.args.draws.now (request_of c.args.q c.args.bytes.now) x c.walk_listed.ensures.moved;
      risen = c.walk_listed.ensures.risen;
    }
