-- The blocks that a piece adds, once the flag of its walk is set. Assumes nothing.
use Rattle.std.specs.Prelude.{ℕ, ◌≡◌}
use Rattle.model.specs.State.{Picker}
use Rattle.model.specs.pick.Blocks.{PickRequest, PickState, flagged, steps, has_bit, is_piece_free, add_blocks}
use Rattle.model.specs.pick.Pick.{visit_outside}

unfoldable pub add_flagged : (a : PickRequest) (flag i : ℕ) (w : PickState) → PickState
add_flagged a flag i w = add_blocks a i (flagged flag w)

-- of piece i only the bit is left to ask
unfoldable pub OnlyBit : (a : PickRequest) (d : Picker) (i : ℕ) → Type 0
OnlyBit a d i = is_piece_free a d i ≡ has_bit a i

-- a piece counted, and visited outside the range
unfoldable pub counted_visit : (a : PickRequest) (counter flag i : ℕ) (w : PickState) → PickState
counted_visit a counter flag i w = visit_outside a flag i (steps 1 counter w)
