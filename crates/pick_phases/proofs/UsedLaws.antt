-- Draws and counters between the phases of a pick: partials and suggestions draw nothing, the list takes a draw for each piece at most.
-- Assumes nothing.
use mathlib.Core.Path.{◌≡◌}
use mathlib.Core.Bool.{Bool, false}
use mathlib.Core.List.{List}
use mathlib.Core.Option.{Option, none, some}
use Prim.Native.Nat.{ℕ, ◌+◌, ◌≤◌}
use native.Mathlib.Omega.{arith}
use borrow.Author.Tests.{lt-leb}
use Rattle.model.specs.Lists.{walk}
use Rattle.model.specs.State.{Picker}
use Rattle.model.specs.Options.{partial_loops, suggest_loops, rare_loops, reverse_rare_loops}
use Rattle.model.specs.list.Order.{Draws, drawing}
use Rattle.model.specs.pick.Blocks.{PickRequest, PickState, spent, with_out, with_backup, with_picker, ignore, flagged, steps, enough_aside}
use Rattle.model.specs.pick.Pick.{pick_partials, suggest, forget_extent, with_list_updated, pick_listed}
use Rattle.model.proofs.base.WalkLaws.{walk_keeps}
use Rattle.model.proofs.list.ListingLaws.{update_pieces-used}
use Rattle.model.proofs.pick.FrameLaws.{any_partial}
use Rattle.model.proofs.pick.PhaseLaws.{Kept, blind_kept, pick_partials_keeps, suggest_keeps, pick_listed_keeps}
use Rattle.model.proofs.pick.SoundPick.{sound_sized}
use Rattle.model.specs.image.Sound.{Sound}
use Rattle.pick_state.specs.declared.numbers.PickNumbers.{PickNumbers}
use Rattle.pick_state.specs.PickStates.{state_of}
use Rattle.pick_state.proofs.TakeLaws.{between_length}
use Rattle.pick_visits.specs.Steps.{Risen}
use Rattle.pick_phases.specs.Phases.{LowLoops}

-- ---- draws
module _ (n : ℕ) where
  -- at most n were used
  UpTo : PickState → Type 0
  UpTo w = w.used ≤ n

  upto_kept : (a : PickRequest) → Kept a any_partial UpTo
  unfolding UpTo with_out with_backup ignore flagged steps
  upto_kept a =
      blind_kept a UpTo (record { out = λ m r bs w h. h; backup = λ bs w h. h; marks = λ i w h. h }) (λ f w h. h) (λ w h. h)

  upto_steps : (m c : ℕ) (w : PickState) → UpTo w → UpTo (steps m c w)
  unfolding UpTo steps
  upto_steps m c w h = h

  upto_forgets : (o : Option ℕ) (w : PickState) → UpTo w → UpTo (forget_extent o w)
  unfolding UpTo forget_extent with_picker
  upto_forgets none w h = h
  upto_forgets (some k) w h = h

-- partials draw nothing
pub partials_used : (a : PickRequest) (w : PickState) → enough_aside w ≡ false → (pick_partials a w).used ≤ w.used
unfolding UpTo
partials_used a w e =
    pick_partials_keeps a any_partial (UpTo w.used) (upto_kept w.used a) w e (omega arith)
    (upto_steps w.used _ partial_loops w (omega arith))

-- the list takes a draw for each piece at most
pub listed_used : (draws : Draws) (a : PickRequest) (w : PickState) → spent w ≡ false → Sound w.picker
    → (pick_listed draws a w).used ≤ w.used + 4095
unfolding UpTo with_list_updated with_picker drawing
listed_used draws a w e s =
    let n = w.used + 4095 in
    let k = update_pieces-used draws (drawing w.used w.picker) in
    pick_listed_keeps a any_partial (UpTo n) (UpTo n) (upto_kept n a) (upto_kept n a) (λ v h. h) (upto_forgets n)
    (upto_steps n 1 rare_loops) (upto_steps n 1 reverse_rare_loops) draws w e (omega (arith, k.1, (sound_sized w.picker s).few))

-- nor do suggestions
pub suggested_used : (a : PickRequest) (is : List ℕ) (w : PickState) → spent w ≡ false → (walk (suggest a) spent is w).used ≤ w.used
unfolding UpTo
suggested_used a is w e =
    let n = w.used in
    walk_keeps (UpTo n) (suggest a) spent
    (λ i t z h. suggest_keeps a any_partial (UpTo n) (upto_kept n a) i t z (upto_steps n 1 suggest_loops t h)) is w e (omega arith)

-- ---- at the start
-- more blocks are wanted than are set aside, where none is
pub none_aside : (start : ℕ) (d : Picker) (t : PickNumbers) (out aside : List ℕ) (ignored : List Bool) (loops : List ℕ)
    → 1 ≤ t.left → t.aside ≡ 0 → enough_aside (state_of start d t out aside ignored loops) ≡ false
unfolding enough_aside state_of
none_aside start d t out aside ignored loops h e =
    lt-leb t.left _ (omega (arith, between_length 0 t.aside aside (omega arith), h))

-- ---- counters
pub low_risen : {n m : ℕ} {loops loops' : List ℕ} → LowLoops n loops → Risen m loops loops' → LowLoops (n + m) loops'
low_risen l r = record { low = λ k. omega (arith, l.low k, r.rise k) }

pub low_most : {n m : ℕ} {loops : List ℕ} → n ≤ m → LowLoops n loops → LowLoops m loops
low_most h l = record { low = λ k. omega (arith, l.low k) }

pub risen_most : {n m : ℕ} {loops loops' : List ℕ} → n ≤ m → Risen n loops loops' → Risen m loops loops'
risen_most h r = record { rise = λ k. omega (arith, r.rise k) }

pub risen_then : {n m : ℕ} {loops loops₁ loops₂ : List ℕ} → Risen n loops loops₁ → Risen m loops₁ loops₂ → Risen (n + m) loops loops₂
risen_then x y = record { rise = λ k. omega (arith, x.rise k, y.rise k) }
