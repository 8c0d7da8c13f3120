-- A row of places read at its end and past it. Assumes nothing.
use mathlib.Core.Path.{◌≡◌, refl, sym, ◌∙◌}
use mathlib.Core.Bool.{true}
use mathlib.Core.List.{List, [], ◌∷◌}
use Prim.Native.Nat.{ℕ, zero, suc, ◌≤◌, ◌<◌}
use native.Mathlib.Omega.{arith}
use Rattle.model.specs.Lists.{nth, len}
use Rattle.model.specs.State.{Picker}
use Rattle.model.specs.image.WellFormed.{well_formed}
use Rattle.model.proofs.sound.SoundLaws.{well_formed_sound}
use Rattle.memory_layout.specs.Decode.{queue_from}
use Rattle.memory_queues.specs.Queues.{places_in, Queued}
use Rattle.memory_queues.proofs.EnterLaws.{size_is, size_few, place_is}

-- past the end of a list stands what is put for it
at_past : (d : ℕ) (l : List ℕ) (j : ℕ) → len l ≤ j → nth d l j ≡ d
unfolding nth len
at_past d [] j h = refl
at_past d (x ∷ l) zero h = absurd (omega arith)
at_past d (x ∷ l) (suc j) h = at_past d l j (omega arith)

-- before its end that does not matter
at_below : (d e : ℕ) (l : List ℕ) (j : ℕ) → j < len l → nth d l j ≡ nth e l j
unfolding nth len
at_below d e [] j h = absurd (omega arith)
at_below d e (x ∷ l) zero h = refl
at_below d e (x ∷ l) (suc j) h = at_below d e l j (omega arith)

module _ (d : Picker) (queues : List (List ℕ)) (sizes : List ℕ) (g : Queued d queues sizes) (q : ℕ) (h : q < 4) (j : ℕ) where
  pub queue_ends : nth 0 sizes q ≤ j → 512 ≡ nth 512 (places_in (queue_from q) d) j
  queue_ends l = sym (at_past 512 (places_in (queue_from q) d) j (omega (arith, l, size_is d queues sizes g q h)))

  pub queue_place : j < nth 0 sizes q → nth 0 (nth [] queues q) j ≡ nth 512 (places_in (queue_from q) d) j
  queue_place l =
      place_is d queues sizes g q h j l ∙ at_below 0 512 (places_in (queue_from q) d) j (omega (arith, l, size_is d queues sizes g q h))

  -- such a place is one of 512
  pub place_low : well_formed d ≡ true → j < nth 0 sizes q → j < 512
  place_low w l = omega (arith, size_few d queues sizes g q h, (well_formed_sound d w).few)
