-- `forget_extent` meets its contract. Assumes nothing.
use Rattle.pick_extents.proofs.MoveLaws.{forget_yes, forget_no}
use Rattle.pick_extents.proofs.forget_extent.Goals as goal

pub remove_recent_extent-requires : goal.remove_recent_extent-requires
remove_recent_extent-requires c = record {
  words_span = c.requires.words_span;
  p_bound = (c.requires.place_bound.0 c.if-found.true, c.requires.place_bound.1);
}

pub shape_of-words : goal.shape_of-words
shape_of-words c = c.remove_recent_extent.ensures.became.kept.long

pub returns-then-found : goal.returns-then-found
returns-then-found c = forget_yes c.args.s c.args.words.now c.args.found c.args.place _ c.if-found.true c.remove_recent_extent.ensures

pub returns-else-found : goal.returns-else-found
returns-else-found c = forget_no c.args.s c.args.words.now c.args.found c.args.place c.if-found.false
