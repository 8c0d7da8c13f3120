-- N is at most the blocks given and those still wanted: so where fewer than N are given, blocks are wanted at the end. Assumes nothing.
use mathlib.Core.Path.{◌≡◌}
use Prim.Native.Nat.{ℕ, suc, ◌+◌, ◌-◌, ◌≤◌, ◌<◌}
use native.Mathlib.Omega.{arith}
use mathlib.Core.Bool.{false, ◌||◌}
use mathlib.Core.List.{[], ◌∷◌}
use mathlib.Core.Option.{Option, none, some}
use lib.ListN.{length, length-append, length-take, take}
use Rattle.model.specs.Lists.{least, len}
use Rattle.model.specs.State.{Picker, pieces_in}
use Rattle.model.specs.Options.{on_parole, sequential, rarest_first, backup1, partial_loops, suggest_loops, reverse_rare_loops, rare_loops}
use Rattle.model.specs.Options.{rand_start_loops, rand_loops}
use Rattle.model.specs.list.Order.{Draws, draw}
use Rattle.model.specs.pick.Blocks.{PickRequest, option, PickState, start_state, spent, with_out, with_contiguous, with_backup, with_picker}
use Rattle.model.specs.pick.Blocks.{ignore, flagged, steps, piece_block, took, append_blocks}
use Rattle.model.specs.pick.Pick.{effective_request, start_pick, forget_extent, pick_random, pick_end_game, with_list_updated, pick_listed, pick_main}
use Rattle.model.specs.pick.Pick.{pick_rest, pick_pieces}
use Rattle.model.proofs.base.Phases.{branch_arms}
use Rattle.model.proofs.base.WalkLaws.{unless_keeps}
use Rattle.pick_laws.proofs.AsideLaws.{aside_arms}
use Rattle.model.proofs.pick.FrameLaws.{Closed, any_partial, every_any}
use Rattle.model.proofs.pick.PhaseLaws.{Kept, closed_kept, pick_listed_keeps, ring_keeps, pick_end_game_keeps, phases_keeps, start_pick_keeps}
use Rattle.model.proofs.pick.PhaseLaws.{asked_wanted, start_more}
use Rattle.pick_laws.proofs.SpanLaws.{least_left}

module _ (n : ℕ) where
  Covers : PickState → Type 0
  Covers w = n ≤ w.left + len w.out

  covers_closed : Closed any_partial Covers
  unfolding Covers with_contiguous with_out took ignore with_backup len
  covers_closed = record {
    ready = λ w h. every_any w.picker.partials;
    contiguous = λ r w h. h;
    takes = λ i j w h. omega (arith, length-append w.out (piece_block i j ∷ []));
    marks = λ i w h. h;
    aside = λ d first w o h. aside_arms Covers d first w h (λ e. h);
  }

  covers_append : (w : PickState) → Covers w → Covers (append_blocks w)
  unfolding Covers append_blocks with_backup with_out len
  covers_append w h =
      let m = least (length w.backup) w.left in
      let l = least_left (length w.backup) w.left in
      omega (arith, length-append w.out (take m w.backup), length-take m w.backup)

  covers_flag : (f : ℕ) (w : PickState) → Covers w → Covers (flagged f w)
  unfolding Covers flagged
  covers_flag f w h = h

  covers_step : (m c : ℕ) (w : PickState) → Covers w → Covers (steps m c w)
  unfolding Covers steps
  covers_step m c w h = h

  covers_kept : (a : PickRequest) → Kept a any_partial Covers
  covers_kept a = closed_kept a any_partial Covers covers_closed covers_flag (covers_step 1 rand_loops) covers_append

  covers_picker : (s : Picker) (used : ℕ) (w : PickState) → Covers w → Covers (with_picker s used w)
  unfolding Covers with_picker
  covers_picker s u w h = h

  covers_forget : (place : Option ℕ) (w : PickState) → Covers w → Covers (forget_extent place w)
  unfolding forget_extent
  covers_forget none w h = h
  covers_forget (some k) w h = covers_picker _ w.used w h

  module _ (draws : Draws) (a : PickRequest) where
    covers_main : (w : PickState) → spent w ≡ false → Covers w → Covers (pick_main draws a w)
    unfolding pick_main pick_random with_list_updated
    covers_main w z h =
        let k = covers_kept a in
        branch_arms Covers (option sequential a || option rarest_first a) (pick_listed draws a) (pick_random draws a) w
        (λ e. pick_listed_keeps a any_partial Covers Covers k k (λ v g. g) covers_forget (covers_step 1 rare_loops)
        (covers_step 1 reverse_rare_loops) draws w z
        (covers_picker _ _ w h))
        (λ e. ring_keeps a any_partial Covers k (covers_step 1 rand_start_loops) (draw draws w.used (pieces_in w.picker - 1))
        (with_picker w.picker (suc w.used) w) (covers_picker w.picker (suc w.used) w h))

    covers_end : (w : PickState) → Covers w → Covers (pick_end_game draws a w)
    unfolding Covers with_picker steps flagged with_out len
    covers_end w h =
        pick_end_game_keeps (λ m v. n ≤ v.left + length v.out) (λ v. n ≤ v.left + length v.out) (λ m v g. g)
        (λ m v i j g. omega (arith, length-append v.out (piece_block i j ∷ []))) (λ m v g. g) draws a w h

    covers_rest : (w : PickState) → spent w ≡ false → Covers w → Covers (pick_rest draws a w)
    unfolding pick_rest
    covers_rest w z h =
        let v = append_blocks (flagged backup1 w) in
        let g = covers_append (flagged backup1 w) (covers_flag backup1 w h) in
        unless_keeps Covers (spent v || option on_parole a) (pick_end_game draws a) v g (λ e. covers_end v g)

-- where fewer blocks are given than are wanted
pub still_wanted : (draws : Draws) (s : Picker) (a : PickRequest) → len (pick_pieces draws s a).out < a.wanted
    → 0 < (pick_pieces draws s a).left
unfolding pick_pieces Covers start_state len
still_wanted draws s a h =
    let n = a.wanted in
    let b = effective_request s a in
    let start : n ≤ (start_state s b).left + len (start_state s b).out = omega (arith, asked_wanted s a) in
    let w = start_pick s a in
    let g = phases_keeps draws b any_partial (Covers n) (Covers n) (Covers n) (covers_kept n b) (λ m v x. covers_step n m partial_loops v x)
    (covers_step n 1 suggest_loops) (λ v x. x) (covers_main n draws b) (λ v x. x) (covers_rest n draws b) w (start_more s a (omega arith))
    (start_pick_keeps s a (Covers n) (covers_flag n) start) in
    omega arith
