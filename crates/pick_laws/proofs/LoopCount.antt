-- A pick has seven counters, and none of them falls. Assumes nothing.
use mathlib.Core.Path.{◌≡◌, refl, ◌∙◌}
use Prim.Native.Nat.{ℕ, suc, ◌+◌, ◌-◌, ◌≤◌}
use native.Mathlib.Decide.{ℕ_discrete}
use native.Mathlib.Omega.{arith}
use mathlib.Core.Bool.{false, ◌||◌}
use mathlib.Core.List.{List}
use mathlib.Core.Option.{Option, none, some}
use lib.ListN.{length, length-set}
use Rattle.types.specs.declared.queue.DownloadQueue.TheVariants.{Downloading}
use Rattle.model.specs.Lists.{nth, set_nth, len}
use Rattle.model.specs.State.{Picker, pieces_in}
use Rattle.model.specs.Options.{on_parole, sequential, rarest_first, backup1, partial_loops, suggest_loops, reverse_rare_loops, rare_loops}
use Rattle.model.specs.Options.{rand_start_loops, rand_loops, busy_loops}
use Rattle.model.specs.list.Order.{draw}
use Rattle.model.specs.change.Partials.{in_queue}
use Rattle.model.specs.pick.Blocks.{PickRequest, option, PickState, start_state, spent, with_out, with_backup, with_picker, ignore}
use Rattle.model.specs.pick.Blocks.{flagged, steps, append_blocks, enough_aside}
use Rattle.model.specs.pick.Pick.{effective_request, start_pick, pick_partials, pick_suggested, forget_extent, pick_random, pick_end_game}
use Rattle.model.specs.pick.Pick.{with_list_updated, pick_listed, pick_main, pick_rest, pick_pieces}
use Rattle.model.proofs.base.WalkLaws.{unless_keeps}
use Rattle.model.proofs.pick.FrameLaws.{Blind, backup_keeps, any_partial}
use Rattle.model.proofs.pick.PhaseLaws.{Kept, blind_kept, pick_partials_keeps, pick_suggested_keeps, ring_keeps, pick_listed_keeps}
use Rattle.model.proofs.pick.PhaseLaws.{pick_end_game_keeps, phases_keeps, start_pick_keeps, start_more}
use Rattle.pick_laws.proofs.CounterLaws.{counter, counter_up, counter_other}
use Rattle.pick_laws.proofs.LoopFrame.{counter_drawn, counter_refreshed, counter_forgets, counter_tried, counter_found}
use Rattle.model.proofs.base.Phases.{branch_arms}

-- ---- seven counters
loops_blind : Blind (λ w. length w.loops ≡ 7)
unfolding with_out with_backup ignore
loops_blind = record { out = λ n r bs w h. h; backup = λ bs w h. h; marks = λ i w h. h }

loops_flag : (f : ℕ) (w : PickState) → length w.loops ≡ 7 → length (flagged f w).loops ≡ 7
unfolding flagged
loops_flag f w h = h

loops_step : (n c : ℕ) (w : PickState) → length w.loops ≡ 7 → length (steps n c w).loops ≡ 7
unfolding steps set_nth
loops_step n c w h = length-set w.loops c (nth 0 w.loops c + n) ∙ h

loops_forgets : (o : Option ℕ) (w : PickState) → length w.loops ≡ 7 → length (forget_extent o w).loops ≡ 7
unfolding forget_extent with_picker
loops_forgets none w h = h
loops_forgets (some i) w h = h

loops_kept : (a : PickRequest) → Kept a any_partial (λ w. length w.loops ≡ 7)
loops_kept a = blind_kept a (λ w. length w.loops ≡ 7) loops_blind loops_flag (loops_step 1 rand_loops)

loops_main : (ds : List ℕ) (a : PickRequest) (w : PickState) → spent w ≡ false → length w.loops ≡ 7 → length (pick_main ds a w).loops ≡ 7
unfolding pick_main pick_random with_list_updated with_picker
loops_main ds a w z h =
    let I : PickState → Type 0 = λ v. length v.loops ≡ 7 in
    let k = loops_kept a in
    branch_arms I (option sequential a || option rarest_first a) (pick_listed ds a) (pick_random ds a) w
    (λ e. pick_listed_keeps a any_partial I I k k (λ v g. g) loops_forgets (loops_step 1 rare_loops) (loops_step 1 reverse_rare_loops) ds w z h)
    (λ e. ring_keeps a any_partial I k (loops_step 1 rand_start_loops) (draw ds w.used (pieces_in w.picker - 1)) (with_picker w.picker (suc w.used) w) h)

loops_end_game : (ds : List ℕ) (a : PickRequest) (w : PickState) → length w.loops ≡ 7 → length (pick_end_game ds a w).loops ≡ 7
unfolding with_picker flagged with_out
loops_end_game ds a w h =
    pick_end_game_keeps (λ n v. length v.loops ≡ 7) (λ v. length v.loops ≡ 7) (λ n v g. loops_step 1 busy_loops v g) (λ n v i j g. g) (λ n v g. g) ds a w h

loops_rest : (ds : List ℕ) (a : PickRequest) (w : PickState) → spent w ≡ false → length w.loops ≡ 7 → length (pick_rest ds a w).loops ≡ 7
unfolding pick_rest
loops_rest ds a w z h =
    let I : PickState → Type 0 = λ v. length v.loops ≡ 7 in
    let u = flagged backup1 w in
    let v = append_blocks u in
    let g = backup_keeps I loops_blind u (loops_flag backup1 w h) in
    unless_keeps I (spent v || option on_parole a) (pick_end_game ds a) v g (λ e. loops_end_game ds a v g)

begin_loops : (s : Picker) (a : PickRequest) → length (start_state s a).loops ≡ 7
unfolding start_state
begin_loops s a = refl

-- a pick has seven counters
pub pick_loops : (ds : List ℕ) (s : Picker) (a : PickRequest) → 1 ≤ a.wanted → len (pick_pieces ds s a).loops ≡ 7
unfolding pick_pieces len
pick_loops ds s a h =
    let I : PickState → Type 0 = λ v. length v.loops ≡ 7 in
    let b = effective_request s a in
    phases_keeps ds b any_partial I I I (loops_kept b) (λ n w g. loops_step n partial_loops w g) (loops_step 1 suggest_loops) (λ w g. g) (loops_main ds b)
    (λ w g. g) (loops_rest ds b) (start_pick s a) (start_more s a h) (start_pick_keeps s a I loops_flag (begin_loops s b))

-- ---- counters never fall
module _ (k m : ℕ) where
  rises_step : (n c : ℕ) (w : PickState) → m ≤ counter k w → m ≤ counter k (steps n c w)
  rises_step n c w h = elim (ℕ_discrete k c) [
    | yes e ↦ rw e (omega (arith, counter_up n c w, rw e at h))
    | no d ↦ omega (arith, counter_other k n c w d)
  ]

  rises_blind : Blind (λ w. m ≤ counter k w)
  unfolding counter with_out with_backup ignore
  rises_blind = record { out = λ n r bs w h. h; backup = λ bs w h. h; marks = λ i w h. h }

  rises_flag : (f : ℕ) (w : PickState) → m ≤ counter k w → m ≤ counter k (flagged f w)
  unfolding counter flagged
  rises_flag f w h = h

  -- what a pick does keeps a counter at m or above
  pub rises_kept : (a : PickRequest) → Kept a any_partial (λ w. m ≤ counter k w)
  rises_kept a = blind_kept a (λ w. m ≤ counter k w) rises_blind rises_flag (rises_step 1 rand_loops)

  rises_end_game : (ds : List ℕ) (a : PickRequest) (w : PickState) → m ≤ counter k w → m ≤ counter k (pick_end_game ds a w)
  rises_end_game ds a w h =
      pick_end_game_keeps (λ n v. m ≤ counter k v) (λ v. m ≤ counter k v) (λ n v g. rw (counter_tried k v) (rises_step 1 busy_loops v g))
      (λ n v i j g. rw (counter_found k i j v) g) (λ n v g. g) ds a w h

-- each phase leaves a counter where it was, or higher
module _ (k : ℕ) (ds : List ℕ) (a : PickRequest) (w : PickState) where
  -- partials
  pub partials_rise : enough_aside w ≡ false → counter k w ≤ counter k (pick_partials a w)
  partials_rise d =
      let m = counter k w in
      pick_partials_keeps a any_partial (λ v. m ≤ counter k v) (rises_kept k m a) w d (omega arith)
      (rises_step k m (len (in_queue Downloading w.picker)) partial_loops w (omega arith))

  -- suggestions
  pub suggested_rise : spent w ≡ false → counter k w ≤ counter k (pick_suggested a w)
  suggested_rise z =
      let m = counter k w in
      pick_suggested_keeps a any_partial (λ v. m ≤ counter k v) (rises_kept k m a) (rises_step k m 1 suggest_loops) w z (omega arith)

  -- the main walk
  pub main_rise : spent w ≡ false → counter k w ≤ counter k (pick_main ds a w)
  unfolding pick_main pick_random
  main_rise z =
      let m = counter k w in
      let I : PickState → Type 0 = λ v. m ≤ counter k v in
      let kept = rises_kept k m a in
      branch_arms I (option sequential a || option rarest_first a) (pick_listed ds a) (pick_random ds a) w
      (λ e. pick_listed_keeps a any_partial I I kept kept (λ v g. g) (λ o v g. rw (counter_forgets k o v) g) (rises_step k m 1 rare_loops)
      (rises_step k m 1 reverse_rare_loops) ds w z (rw (counter_refreshed k ds w) (omega arith)))
      (λ e. ring_keeps a any_partial I kept (rises_step k m 1 rand_start_loops) (draw ds w.used (pieces_in w.picker - 1))
      (with_picker w.picker (suc w.used) w) (rw (counter_drawn k w) (omega arith)))

  -- backup blocks and end game
  pub rest_rise : counter k w ≤ counter k (pick_rest ds a w)
  unfolding pick_rest
  rest_rise =
      let m = counter k w in
      let I : PickState → Type 0 = λ v. m ≤ counter k v in
      let u = flagged backup1 w in
      let v = append_blocks u in
      let g = backup_keeps I (rises_blind k m) u (rises_flag k m backup1 w (omega arith)) in
      unless_keeps I (spent v || option on_parole a) (pick_end_game ds a) v g (λ e. rises_end_game k m ds a v g)
