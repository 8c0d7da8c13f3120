-- What a call on a buffer has to show for each of its answers.
use mathlib.Core.Path.{◌≡◌, refl}
use mathlib.Core.List.{List}
use Prim.Native.Nat.{ℕ, ◌≤◌, ◌<◌}
use lib.ListN.{length}
use borrow.Author.Tests.{le-leb, lt-leb}
use Rattle.model.specs.Bep3.{bitfield_bytes}
use Rattle.bitfield_writes.specs.Writing.{room_for, room_from, on_done, Did}
use Rattle.std.specs.Prelude.{⊤, Result, Ok, Err}
use Rattle.bitfield_writes.specs.declared.StoreError.{StoreError}
use Rattle.bitfield_writes.specs.declared.StoreError.TheVariants.{DataShort, TooShort}

module _ (bits : ℕ) (old new : List ℕ) where
  room_yes : bitfield_bytes bits ≤ length old → room_for bits old ≡ (Ok tt)
  unfolding room_for
  room_yes h = rw (le-leb (bitfield_bytes bits) (length old) h)

  room_no : length old < bitfield_bytes bits → room_for bits old ≡ (Err TooShort)
  unfolding room_for
  room_no h = rw (lt-leb (bitfield_bytes bits) (length old) h)

  from_yes : (src : List ℕ) → bitfield_bytes bits ≤ length src → room_from bits src old ≡ room_for bits old
  unfolding room_from
  from_yes src h = rw (le-leb (bitfield_bytes bits) (length src) h)

  -- what an answer leaves
  done : (want : Result ⊤ StoreError) (exit : List ℕ) → want ≡ (Ok tt) → exit ≡ new → Did want new old (Ok tt) exit
  unfolding on_done
  done want exit w e = rw w (record { answers = refl; leaves = e })

  short : (want : Result ⊤ StoreError) → want ≡ (Err TooShort) → Did want new old (Err TooShort) old
  unfolding on_done
  short want w = rw w (record { answers = refl; leaves = refl })

  pub did_done : (exit : List ℕ) → bitfield_bytes bits ≤ length old → exit ≡ new → Did (room_for bits old) new old (Ok tt) exit
  did_done exit h e = done (room_for bits old) exit (room_yes h) e

  pub did_short : length old < bitfield_bytes bits → Did (room_for bits old) new old (Err TooShort) old
  did_short h = short (room_for bits old) (room_no h)

  pub took_done : (src exit : List ℕ) → bitfield_bytes bits ≤ length src → bitfield_bytes bits ≤ length old → exit ≡ new
      → Did (room_from bits src old) new old (Ok tt) exit
  took_done src exit p h e = rw (from_yes src p) (did_done exit h e)

  pub took_short : (src : List ℕ) → bitfield_bytes bits ≤ length src → length old < bitfield_bytes bits
      → Did (room_from bits src old) new old (Err TooShort) old
  took_short src p h = rw (from_yes src p) (did_short h)

  pub took_none : (src : List ℕ) → length src < bitfield_bytes bits → Did (room_from bits src old) new old (Err DataShort) old
  unfolding room_from on_done
  took_none src p = rw (lt-leb (bitfield_bytes bits) (length src) p) (record { answers = refl; leaves = refl })
