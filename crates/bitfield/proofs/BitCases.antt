-- Computed cases of `specs/Bitfield.antt`.
use Rattle.std.specs.Prelude.{None, Some}
use mathlib.Core.Path.{◌≡◌, refl}
use mathlib.Core.Bool.{true, false}
use mathlib.Core.List.{[], ◌∷◌}
use Rattle.model.specs.Bep3.{parts_of, bitfield_bytes, bit_of, bit_at}
use Rattle.bitfield.specs.Bitfield.{count_bits, every_set, all_set, first_from, first_set, last_clear, next_bit}

opened : Unit {0}
unfolding parts_of bitfield_bytes bit_of bit_at count_bits every_set all_set first_from first_set last_clear next_bit
opened = tt

-- of 0x05 0xff only ten bits count: four are set, bit 5 first, and bit 6 is the last unset one
ten : (count_bits (0x05 ∷ 0xff ∷ []) 10 ≡ 4) × (first_set (0x05 ∷ 0xff ∷ []) 10 ≡ Some 5) × (last_clear (0x05 ∷ 0xff ∷ []) 10 ≡ Some 6)
unfolding opened
ten = (refl, refl, refl)

-- with no bits nothing is all set
none : (all_set (0xff ∷ []) 0 ≡ false) × (all_set (0xff ∷ []) 8 ≡ true) × (first_set (0xff ∷ []) 0 ≡ None)
unfolding opened
none = (refl, refl, refl)
