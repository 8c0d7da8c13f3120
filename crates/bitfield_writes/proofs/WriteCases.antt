-- Computed cases of `specs/Writing.antt`.
use mathlib.Core.Path.{◌≡◌, refl}
use mathlib.Core.Bool.{true}
use mathlib.Core.List.{[], ◌∷◌}
use Rattle.model.specs.Bep3.{parts_of, bitfield_bytes, bit_of, bit_at}
use Rattle.bitfield_writes.specs.Writing.{digits, from_bits, put_run, put_bit, filled, grown, room_for}
use Rattle.std.specs.Prelude.{Ok, Err}
use Rattle.bitfield_writes.specs.declared.StoreError.TheVariants.{TooShort}

opened : Unit {0}
unfolding parts_of bitfield_bytes bit_of bit_at digits from_bits put_run put_bit filled grown room_for
opened = tt

-- eleven bits set in three bytes: the spare bits are 0 and the third byte stays
set_eleven : filled 11 (λ i. true) (0x12 ∷ 0x34 ∷ 0x56 ∷ []) ≡ 0xff ∷ 0xe0 ∷ 0x56 ∷ []
unfolding opened
set_eleven = refl

-- from three bits to ten, new bits set
three_to_ten : filled 10 (grown (0xbf ∷ 0xff ∷ []) 3 true) (0xbf ∷ 0xff ∷ []) ≡ 0xbf ∷ 0xc0 ∷ []
unfolding opened
three_to_ten = refl

-- bit 9 set; bit 12 is not below the number of bits
set_nine : (put_bit 10 9 true (0 ∷ 0 ∷ []) ≡ 0 ∷ 0x40 ∷ []) × (put_bit 10 12 true (0 ∷ 0 ∷ []) ≡ 0 ∷ 0 ∷ [])
unfolding opened
set_nine = (refl, refl)

-- nine bits need two bytes
room : (room_for 9 (0 ∷ []) ≡ Err TooShort) × (room_for 8 (0 ∷ []) ≡ Ok tt)
unfolding opened
room = (refl, refl)
