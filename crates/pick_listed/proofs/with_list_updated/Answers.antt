-- `with_list_updated` meets its contract. Assumes nothing.
use mathlib.Core.Path.{refl}
use Rattle.pick_listed.specs.Listed.{with_used}
use Rattle.pick_listed.proofs.with_list_updated.Goals as goal

pub update_pieces-used-requires : goal.update_pieces-used-requires
update_pieces-used-requires c = record {
  list_bounds = c.requires.list_bounds;
  ranks_right = c.requires.ranks_right;
  used_in_bounds = c.requires.used_in_bounds;
}

pub shape_of-words : goal.shape_of-words
shape_of-words c = c.update_pieces-used.ensures.became.words_kept.long

pub returns : goal.returns
unfolding with_used
returns c = record {
  list_became = c.update_pieces-used.ensures;
  value = refl;
}
