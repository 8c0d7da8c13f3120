-- `first_free` meets its contract. Assumes nothing.
use mathlib.Core.Path.{◌∙◌}
use Rattle.memory_places.proofs.PlaceLaws.{marked_none, lowest_is}
use Rattle.memory_places.proofs.places.first_free.Goals as goal

pub mark_places-requires : goal.mark_places-requires
mark_places-requires c = record {
  marked = marked_none;
  live_bound = (c.requires.live_bound.0, c.requires.live_bound.2);
  places_below = c.requires.places_below;
}

pub first_unmarked-requires : goal.first_unmarked-requires
first_unmarked-requires c = (c.requires.live_bound.1, c.mark_places.ensures.long)

pub returns : goal.returns
returns c = c.first_unmarked.ensures ∙ lowest_is _ _ _ c.mark_places.ensures c.requires.live_bound.1
