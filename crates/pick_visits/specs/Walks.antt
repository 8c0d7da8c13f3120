-- The walks over pieces that the phases of a pick are made of, as steps on its state. Assumes nothing.
use Rattle.model.specs.Lists.{range, range_down, reversed, walk}
use Rattle.model.specs.State.{list_of}
use Rattle.model.specs.Options.{prio_sequential_pieces, sequential_pieces, reverse_sequential}
use Rattle.model.specs.pick.Blocks.{PickRequest, PickState, spent}
use Rattle.model.specs.pick.Pick.{visit, leading_top, visit_below_top, rare_step, reverse_rare_step}

-- ---- sequential
-- the pieces of the top priority, in the list's order
unfoldable pub walk_top : (a : PickRequest) (w : PickState) → PickState
walk_top a w = walk (visit a prio_sequential_pieces) spent (leading_top w.picker (list_of w.picker.listing)) w

-- the range from cursor to reverse cursor
unfoldable pub walk_up : (a : PickRequest) (w : PickState) → PickState
walk_up a w = walk (visit_below_top a sequential_pieces) spent (range w.picker.cursor w.picker.reverse_cursor) w

-- the same range, backwards
unfoldable pub walk_down : (a : PickRequest) (w : PickState) → PickState
walk_down a w = walk (visit_below_top a reverse_sequential) spent (range_down w.picker.cursor w.picker.reverse_cursor) w

-- ---- rarest first
-- the list
unfoldable pub walk_list : (a : PickRequest) (w : PickState) → PickState
walk_list a w = walk (rare_step a) spent (list_of w.picker.listing) w

-- the list backwards
unfoldable pub walk_list_back : (a : PickRequest) (w : PickState) → PickState
walk_list_back a w = walk (reverse_rare_step a) spent (reversed (list_of w.picker.listing)) w
