-- Making a picker and taking its image, arm by arm: refused, or done; and a negative number for `new` is refused with 1. Assumes nothing.
use mathlib.Core.Path.{◌≡◌, refl, sym, ap, subst, ◌∙◌}
use mathlib.Core.Bool.{Bool, true, false, cond}
use mathlib.Core.List.{List, ◌++◌}
use mathlib.Core.Option.{none, some}
use Prim.Native.Nat.{ℕ, ◌*◌, ◌≤◌, ◌<◌}
use native.Mathlib.Omega.{arith}
use lib.IntN.{negsuc}
use lib.ListN.{length, drop}
use Rattle.types.specs.declared.refusal.Refusal.{Refusal}
use Rattle.types.specs.declared.refusal.Refusal.TheVariants.{Geometry}
use Rattle.types.specs.Piece.{number_of}
use Rattle.model.specs.State.{Picker, valid_geometry, new}
use Rattle.model.specs.Memory.{Memory, memory_needed}
use Rattle.model.specs.Calls.{Made, made, not_made, within, new_picker, taken, not_taken}
use Rattle.model.proofs.base.Bep3Laws.{num_pieces_le}
use Rattle.geometry.proofs.ValidLaws.{bounds}
use Rattle.picker_calls.specs.Calling.{Lent, picker_on, memory_on}
use Rattle.picker_calls.specs.Starting.{why_not_made, KeptBeyond, MakingCalled, taken_on, wrote, not_written, written, ImageCalled}

-- ---- making
clash : (s : Picker) (why : Refusal) → made s ≡ not_made why → ⊥
clash s why e = let z : ◌≡◌ {A = ℕ} 0 1 = cc in omega arith

pub making_refused : (entry : Lent) (m : Made) (why : Refusal) → m ≡ not_made why → MakingCalled entry m entry (some why)
unfolding why_not_made
making_refused entry m why e =
    record {
      answer = sym (ap why_not_made e);
      unchanged = λ w h. refl;
      after = λ s h. absurd (clash s why (sym h ∙ e));
      good = λ s h. absurd (clash s why (sym h ∙ e));
      kept = λ s h. absurd (clash s why (sym h ∙ e));
    }

pub making_done : (entry exit : Lent) (m : Made) (s : Picker) → m ≡ made s → picker_on exit ≡ s → memory_on exit ≡ none
    → KeptBeyond (memory_needed s) entry exit → MakingCalled entry m exit none
unfolding why_not_made
making_done entry exit m s e p g k =
    record {
      answer = sym (ap why_not_made e);
      unchanged = λ w h. absurd (clash s w (sym e ∙ h));
      after = λ t h. p ∙ one t h;
      good = λ t h. g;
      kept = λ t h. subst (λ (x : Picker). KeptBeyond (memory_needed x) entry exit) (one t h) k;
    }
  where
    one : (t : Picker) → m ≡ made t → s ≡ t
    one t h = let q : made s ≡ made t = sym e ∙ h in cc

-- ---- a negative total or piece size
large_not : (t z : ℕ) → 17179869184 < t → valid_geometry t z ≡ false
large_not t z h = go (valid_geometry t z) refl
  where
    go : (b : Bool) → valid_geometry t z ≡ b → valid_geometry t z ≡ false
    go true e =
        let b = bounds t z e in
        let l : t ≤ 4096 * z = (num_pieces_le t z 4096 b.some_size).0 b.pieces_most in
        absurd (omega (arith, l, b.size_most, h))
    go false e = e

wide_not : (t z : ℕ) → 4194304 < z → valid_geometry t z ≡ false
wide_not t z h = go (valid_geometry t z) refl
  where
    go : (b : Bool) → valid_geometry t z ≡ b → valid_geometry t z ≡ false
    go true e = absurd (omega (arith, (bounds t z e).size_most, h))
    go false e = e

not_valid : (lent : Memory) (t z : ℕ) → valid_geometry t z ≡ false → new_picker lent t z ≡ not_made Geometry
unfolding new_picker
not_valid lent t z e = ap (λ (b : Bool). cond b (within lent (new t z)) (not_made Geometry)) e

pub negative_total : (lent : Memory) (n z : ℕ) → new_picker lent (number_of (negsuc n)) z ≡ not_made Geometry
unfolding number_of
negative_total lent n z = not_valid lent (number_of (negsuc n)) z (large_not (number_of (negsuc n)) z (omega arith))

pub negative_size : (lent : Memory) (t n : ℕ) → new_picker lent t (number_of (negsuc n)) ≡ not_made Geometry
unfolding number_of
negative_size lent t n = not_valid lent t (number_of (negsuc n)) (wide_not t (number_of (negsuc n)) (omega arith))

-- ---- taking the image
clashes : (bytes : List ℕ) (why : Refusal) → taken bytes ≡ not_taken why → ⊥
clashes bytes why e = let z : ◌≡◌ {A = ℕ} 0 1 = cc in omega arith

pub image_refused : (m : Lent) (before : List ℕ) (why : Refusal) → taken_on m (length before) ≡ not_taken why
    → ImageCalled m before before (not_written why)
unfolding written
image_refused m before why e =
    record { answer = sym (ap written e); unchanged = λ w h. refl; given = λ bytes h. absurd (clashes bytes why (sym h ∙ e)) }

pub image_done : (m : Lent) (before after bytes : List ℕ) → taken_on m (length before) ≡ taken bytes
    → after ≡ bytes ++ drop (length bytes) before → ImageCalled m before after (wrote (length bytes))
unfolding written
image_done m before after bytes e a =
    record {
      answer = sym (ap written e);
      unchanged = λ w h. absurd (clashes bytes w (sym e ∙ h));
      given = λ bs h. a ∙ ap (λ (l : List ℕ). l ++ drop (length l) before) (one bs h);
    }
  where
    one : (bs : List ℕ) → taken_on m (length before) ≡ taken bs → bytes ≡ bs
    one bs h = let q : taken bytes ≡ taken bs = sym e ∙ h in cc
