-- The phases that go by the list, once it is right, as a step on a pick's state. Assumes nothing.
use Rattle.std.specs.Prelude.{ℕ}
use Rattle.model.specs.Lists.{unless, when}
use Rattle.model.specs.Options.{sequential}
use Rattle.model.specs.pick.Blocks.{PickRequest, PickState, option, spent}
use Rattle.model.specs.pick.Pick.{pick_sequential, pick_rarest}
use Rattle.pick_state.specs.declared.numbers.PickNumbers.{PickNumbers}

-- so many draws used
unfoldable pub with_used : (used : ℕ) (t : PickNumbers) → PickNumbers
with_used used t =
    record { left = t.left; asked = t.asked; given = t.given; used = used; flags = t.flags; end = t.end; aside = t.aside }

-- sequential where asked for, then by rarity
unfoldable pub walk_listed : (a : PickRequest) (w : PickState) → PickState
walk_listed a w =
    let v = when (option sequential a) (pick_sequential a) w in
    unless (spent v) (pick_rarest a) v
