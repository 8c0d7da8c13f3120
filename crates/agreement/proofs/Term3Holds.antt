-- Term 3 holds.
use mathlib.Core.Path.{◌≡◌, refl, sym, ap, ◌∙◌, subst}
use Prim.Native.Nat.{ℕ, ◌≤◌}
use native.Mathlib.Omega.{arith}
use mathlib.Core.Bool.{Bool, true, false, cond}
use mathlib.Core.List.{List, [], ◌∷◌, ◌++◌}
use lib.Dec.{ltb}
use borrow.Author.Tests.{le-ltb}
use Rattle.types.specs.declared.refusal.Refusal.TheVariants.{Geometry, ShortMemory}
use Rattle.model.specs.Lists.{len}
use Rattle.model.specs.State.{Picker, valid_geometry, new}
use Rattle.model.specs.image.WellFormed.{well_formed}
use Rattle.model.specs.image.Sound.{Sound}
use Rattle.model.specs.image.Image.{image, Read, accepted, fault_at, read_image}
use Rattle.model.specs.Memory.{Memory, memory_needed, is_short}
use Rattle.model.specs.Calls.{Call, step, answers, run, made, not_made, within, new_picker, read_within, read_picker, taken}
use Rattle.model.specs.Calls.{not_taken, take_image}
use Rattle.model.proofs.sound.NewSound.{new_sound}
use Rattle.model.proofs.keep.KeepCalls.{run_keeps}
use Rattle.model.proofs.keep.KeepTorrent.{run_memory}
use Rattle.model.proofs.sound.SoundLaws.{well_formed_sound, sound_well_formed}
use Rattle.model.proofs.image.ImageLaws.{image-accepted, accepted-image, image_injective}
use Rattle.agreement.specs.Term3.{Started, from_new, from_image, Reached, after, Term3}
use Rattle.model.proofs.image.Replies.{pickers_same}

-- ---- what a call makes
-- a picker that is made with enough memory is the one that was to be made
within-made : (lent : Memory) (s t : Picker) → within lent s ≡ made t → s ≡ t
unfolding within
within-made lent s t e = go (is_short lent (memory_needed s)) e
  where
    go : (b : Bool) → cond b (not_made ShortMemory) (made s) ≡ made t → s ≡ t
    go true e = let z : ◌≡◌ {A = ℕ} 0 1 = cc in absurd (omega arith)
    go false e = cc

made-new : (lent : Memory) (total_size piece_size : ℕ) (s : Picker) → new_picker lent total_size piece_size ≡ made s
    → (valid_geometry total_size piece_size ≡ true) × (new total_size piece_size ≡ s)
unfolding new_picker
made-new lent total_size piece_size s e = go (valid_geometry total_size piece_size) refl e
  where
    go : (b : Bool) → valid_geometry total_size piece_size ≡ b → cond b (within lent (new total_size piece_size)) (not_made Geometry) ≡ made s
        → (valid_geometry total_size piece_size ≡ true) × (new total_size piece_size ≡ s)
    go true p e = (p, within-made lent (new total_size piece_size) s e)
    go false p e = let z : ◌≡◌ {A = ℕ} 0 1 = cc in absurd (omega arith)

made_read : (lent : Memory) (bytes : List ℕ) (s : Picker) → read_picker lent bytes ≡ made s → read_image bytes ≡ accepted s
unfolding read_picker read_within
made_read lent bytes s e = go (read_image bytes) refl e
  where
    go : (r : Read Picker) → read_image bytes ≡ r → read_within lent r ≡ made s → read_image bytes ≡ accepted s
    go (accepted t) p e = p ∙ ap accepted (within-made lent t s e)
    go (fault_at k) p e = let z : ◌≡◌ {A = ℕ} 0 1 = cc in absurd (omega arith)

within_enough : (lent : Memory) (s : Picker) → is_short lent (memory_needed s) ≡ false → within lent s ≡ made s
unfolding within
within_enough lent s h = rw h

-- ---- taking the image
-- with memory and room enough
image-taken : (s : Picker) (lent : Memory) (room : ℕ) → is_short lent (memory_needed s) ≡ false → len (image s) ≤ room
    → take_image s lent room ≡ taken (image s)
unfolding take_image
image-taken s lent room h g = rw (h, le-ltb room (len (image s)) g)

-- what is taken is the image
taken-image : (s : Picker) (lent : Memory) (room : ℕ) (bytes : List ℕ) → take_image s lent room ≡ taken bytes → bytes ≡ image s
unfolding take_image
taken-image s lent room bytes e = go (is_short lent (memory_needed s)) (ltb room (len (image s))) e
  where
    go : (a b : Bool) → cond a (not_taken ShortMemory) (cond b (not_taken ShortMemory) (taken (image s))) ≡ taken bytes → bytes ≡ image s
    go true b e = let z : ◌≡◌ {A = ℕ} 0 1 = cc in absurd (omega arith)
    go false true e = let z : ◌≡◌ {A = ℕ} 0 1 = cc in absurd (omega arith)
    go false false e = cc

-- ---- reached pickers are well-formed
started_sound : {s : Picker} → Started s → Sound s
started_sound (from_new lent total_size piece_size s e) =
    let m = made-new lent total_size piece_size s e in
    subst Sound m.1 (new_sound total_size piece_size m.0)
started_sound (from_image lent bytes s e) = well_formed_sound s (accepted-image bytes s (made_read lent bytes s e)).1

reached_sound : {s : Picker} → Reached s → Sound s
reached_sound (after b calls) = run_keeps _ calls (started_sound b)

reached_well : {s : Picker} → Reached s → well_formed s ≡ true
reached_well r = sound_well_formed _ (reached_sound r)

-- ---- lists of calls
-- one list after another is one list
run_append : (s : Picker) (cs ds : List Call) → run (run s cs) ds ≡ run s (cs ++ ds)
unfolding run
run_append s [] ds = refl
run_append s (c ∷ cs) ds = run_append (step s c).after cs ds

reached_stays : (s : Picker) → Reached s → (calls : List Call) → Reached (run s calls)
reached_stays _ (after {s} b before) calls = subst Reached (sym (run_append s before calls)) (after b (before ++ calls))

-- ---- the image is accepted
accepted_back : (s : Picker) → Reached s → (lent : Memory) → is_short lent (memory_needed s) ≡ false → read_picker lent (image s) ≡ made s
unfolding read_picker read_within
accepted_back s r lent h = ap (read_within lent) (image-accepted s (reached_well r)) ∙ within_enough lent s h

-- ---- the theorem
pub term_3 : Term3
term_3 = record {
  agree = λ s t p q. (
    (λ e calls. ap (λ (x : Picker). answers x calls) (image_injective s t (reached_well p) (reached_well q) e)),
    (λ f. ap image (pickers_same s t f (reached_sound p) (reached_sound q))),
  );
  images_stay = λ s t p q e calls.
      ap (λ (x : Picker). image (run x calls)) (image_injective s t (reached_well p) (reached_well q) e);
  image_kept = λ lent bytes s e. (accepted-image bytes s (made_read lent bytes s e)).0;
  image_accepted = accepted_back;
  image_taken = image-taken;
  taken_image = taken-image;
  reached_stays = reached_stays;
  memory_stays = run_memory;
  set_back = λ s r lent room bytes e away lent' h. record {
    picker = s;
    read = ap (read_picker lent') (taken-image s lent room bytes e) ∙ accepted_back s r lent' (rw (run_memory s away) at h);
    answers_as = λ later. refl;
  };
}
