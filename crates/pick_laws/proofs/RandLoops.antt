-- The random walk counts no more blocks than a pick appends. Assumes nothing.
use mathlib.Core.Path.{◌≡◌}
use Prim.Native.Nat.{ℕ, suc, ◌+◌, ◌-◌, ◌≤◌}
use native.Mathlib.Omega.{arith}
use mathlib.Core.Bool.{true, false, ◌||◌}
use mathlib.Core.List.{List, [], ◌∷◌, ◌++◌}
use mathlib.Core.Option.{Option, none, some}
use lib.ListN.{take, length-append}
use Rattle.model.specs.Lists.{least, from, len, walk}
use Rattle.model.specs.State.{Picker, pieces_in, blocks_in_piece}
use Rattle.model.specs.Options.{on_parole, sequential, rarest_first, backup1, end_game, random_pieces, partial_loops, suggest_loops}
use Rattle.model.specs.Options.{reverse_rare_loops, rare_loops, rand_start_loops, rand_loops, busy_loops}
use Rattle.model.specs.list.Order.{draw}
use Rattle.model.specs.pick.Blocks.{PickRequest, option, PickState, start_state, spent, with_out, with_contiguous, with_backup}
use Rattle.model.specs.pick.Blocks.{with_picker, ignore, flagged, steps, expand_piece, pieces_of, piece_block, took, contiguous_over}
use Rattle.model.specs.pick.Blocks.{append_blocks}
use Rattle.model.specs.pick.Pick.{effective_request, start_pick, forget_extent, rand_step, take_all, pick_random, pick_end_game}
use Rattle.model.specs.pick.Pick.{with_list_updated, pick_listed, pick_main, pick_rest, pick_pieces}
use Rattle.model.specs.image.Sound.{Sound}
use Rattle.model.specs.Calls.{request_fits}
use Rattle.model.proofs.base.WalkLaws.{unless_keeps, walk_until_keeps}
use Rattle.model.proofs.pick.FrameLaws.{Closed, run_keeps, downloading_keeps, blocks_keeps, any_partial, every_any}
use Rattle.model.proofs.pick.PhaseLaws.{Kept, ring_keeps, pick_listed_keeps, pick_end_game_keeps, phases_keeps, start_pick_keeps}
use Rattle.model.proofs.pick.PhaseLaws.{start_more}
use Rattle.pick_laws.proofs.CounterLaws.{counter, counter_step, counter_other, begin_zero}
use Rattle.model.proofs.pick.SoundPick.{ask_fits}
use Rattle.pick_laws.proofs.OutputLaws.{pick_output}
use Rattle.model.proofs.base.Phases.{branch_arms}
use Rattle.pick_laws.proofs.AsideLaws.{aside_arms}

-- no more counted than appended
unfoldable Counted : PickState → Type 0
Counted w = counter rand_loops w ≤ len w.out

-- ---- a piece
counted_closed : Closed any_partial Counted
unfolding Counted counter len with_contiguous took with_out ignore with_backup
counted_closed = record {
  ready = λ w h. every_any w.picker.partials;
  contiguous = λ r w h. h;
  takes = λ i j w h. omega (arith, length-append w.out (piece_block i j ∷ []));
  marks = λ i w h. h;
  aside = λ d first w o h. aside_arms Counted d first w h (λ e. h);
}

counted_flag : (f : ℕ) (w : PickState) → Counted w → Counted (flagged f w)
unfolding Counted counter flagged
counted_flag f w h = h

counted_step : (n c : ℕ) → (rand_loops ≡ c → ⊥) → (w : PickState) → Counted w → Counted (steps n c w)
unfolding Counted steps
counted_step n c d w h = omega (arith, counter_other rand_loops n c w d)

-- a block counted is a block taken
counted_rand : (i j : ℕ) (w : PickState) → Counted w → Counted (rand_step i j w)
unfolding Counted rand_step took with_out steps len counter
counted_rand i j w h = omega (arith, counter_step 1 rand_loops w, length-append w.out (piece_block i j ∷ []))

counted_all : (i : ℕ) (w : PickState) → Counted w → Counted (take_all i w)
unfolding take_all walk
counted_all i w h =
    walk_until_keeps Counted (rand_step i) (λ x t. contiguous_over (rand_step i x t)) (counted_rand i) (from 0 (blocks_in_piece w.picker i)) (flagged random_pieces w)
    (counted_flag random_pieces w h)

counted_backup : (w : PickState) → Counted w → Counted (append_blocks w)
unfolding Counted counter append_blocks with_backup with_out len
counted_backup w h = let n = least (len w.backup) w.left in omega (arith, length-append w.out (take n w.backup))

-- ---- the phases
counted_kept : (a : PickRequest) → Kept a any_partial Counted
counted_kept a = record {
  ready = λ w h. every_any w.picker.partials;
  flags = counted_flag;
  marks = counted_closed.marks;
  partial = λ d w o z h. downloading_keeps any_partial Counted counted_closed a d w o h;
  piece = λ i w z h. blocks_keeps any_partial Counted counted_closed a i w h;
  span = λ i w z h. run_keeps any_partial Counted counted_closed take_all counted_all (pieces_of (expand_piece a i w)) w h;
  backup = λ w z h. counted_backup w h;
}

counted_refreshed : (ds : List ℕ) (w : PickState) → Counted w → Counted (with_list_updated ds w)
unfolding Counted counter with_list_updated with_picker
counted_refreshed ds w h = h

counted_forgets : (o : Option ℕ) (w : PickState) → Counted w → Counted (forget_extent o w)
unfolding Counted counter forget_extent with_picker
counted_forgets none w h = h
counted_forgets (some k) w h = h

counted_drawn : (w : PickState) → Counted w → Counted (with_picker w.picker (suc w.used) w)
unfolding Counted counter with_picker
counted_drawn w h = h

counted_main : (ds : List ℕ) (a : PickRequest) (w : PickState) → spent w ≡ false → Counted w → Counted (pick_main ds a w)
unfolding pick_main pick_random
counted_main ds a w z h =
    let k = counted_kept a in
    branch_arms Counted (option sequential a || option rarest_first a) (pick_listed ds a) (pick_random ds a) w
    (λ e. pick_listed_keeps a any_partial Counted Counted k k (λ v g. g) counted_forgets (counted_step 1 rare_loops (λ q. omega arith))
    (counted_step 1 reverse_rare_loops (λ q. omega arith)) ds w z (counted_refreshed ds w h))
    (λ e. ring_keeps a any_partial Counted k (counted_step 1 rand_start_loops (λ q. omega arith)) (draw ds w.used (pieces_in w.picker - 1))
    (with_picker w.picker (suc w.used) w) (counted_drawn w h))

counted_found : (i j : ℕ) (w : PickState) → Counted w
    → Counted (flagged end_game (with_picker w.picker (suc w.used) (with_out w.left w.contiguous (w.out ++ (piece_block i j ∷ [])) w)))
unfolding Counted counter with_picker with_out flagged len
counted_found i j w h = omega (arith, length-append w.out (piece_block i j ∷ []))

counted_tried : (w : PickState) → Counted w → Counted (with_picker w.picker (suc w.used) (steps 1 busy_loops w))
unfolding Counted counter with_picker steps
counted_tried w h = counted_step 1 busy_loops (λ q. omega arith) w h

counted_rest : (ds : List ℕ) (a : PickRequest) (w : PickState) → spent w ≡ false → Counted w → Counted (pick_rest ds a w)
unfolding pick_rest
counted_rest ds a w z h =
    let u = flagged backup1 w in
    let v = append_blocks u in
    let g = counted_backup u (counted_flag backup1 w h) in
    unless_keeps Counted (spent v || option on_parole a) (pick_end_game ds a) v g
    (λ e. pick_end_game_keeps (λ n. Counted) Counted (λ n t j. counted_tried t j) (λ n t i l j. counted_found i l t j) (λ n t j. j) ds a v g)

counted_begin : (s : Picker) (a : PickRequest) → Counted (start_state s a)
unfolding Counted
counted_begin s a = omega (arith, begin_zero s a rand_loops)

module _ (ds : List ℕ) (s : Picker) (a : PickRequest) (h : Sound s) (f : request_fits s a ≡ true) where
  counted : Counted (pick_pieces ds s a)
  unfolding pick_pieces
  counted =
      let b = effective_request s a in
      phases_keeps ds b any_partial Counted Counted Counted (counted_kept b) (λ n w g. counted_step n partial_loops (λ q. omega arith) w g)
      (counted_step 1 suggest_loops (λ q. omega arith)) (λ w g. g) (counted_main ds b) (λ w g. g) (counted_rest ds b) (start_pick s a)
      (start_more s a (ask_fits s a f).some) (start_pick_keeps s a Counted counted_flag (counted_begin s b))

  -- at most N + P + 255 blocks are counted in the random walk
  pub rand_loops_lem : counter rand_loops (pick_pieces ds s a) ≤ a.wanted + a.contiguous + 255
  unfolding Counted
  rand_loops_lem = let c = counted in omega (arith, pick_output ds s a h f)
