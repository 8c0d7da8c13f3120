-- Places computed: the lowest free one in a gap, behind the last, and where none is free. Assumes nothing.
use mathlib.Core.Path.{◌≡◌, refl}
use mathlib.Core.List.{[], ◌∷◌}
use Rattle.model.specs.Lists.{any, member}
use Rattle.memory_places.specs.Places.{lowest_free}

in_a_gap : lowest_free 4 (2 ∷ 0 ∷ []) ≡ 1
unfolding lowest_free member any
in_a_gap = refl

behind_the_last : lowest_free 4 (1 ∷ 0 ∷ []) ≡ 2
unfolding lowest_free member any
behind_the_last = refl

none_free : lowest_free 2 (1 ∷ 0 ∷ []) ≡ 2
unfolding lowest_free member any
none_free = refl
