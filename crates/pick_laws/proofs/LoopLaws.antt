-- The random walk of a pick ends, and each of the seven counters stays small. Assumes nothing.
use mathlib.Core.Path.{◌≡◌, refl, ap, ◌∙◌}
use Prim.Native.Nat.{ℕ, zero, suc, ◌+◌, ◌-◌, ◌≤◌, ◌<◌}
use native.Mathlib.Nat.{mod-lt}
use native.Mathlib.Omega.{arith}
use mathlib.Core.Bool.{true, false, ◌||◌}
use mathlib.Core.List.{List, [], ◌∷◌}
use mathlib.Core.Option.{Option, none, some}
use lib.ListN.{length, length-append, length-set, length-replicate}
use Rattle.types.specs.declared.queue.DownloadQueue.TheVariants.{Downloading}
use Rattle.model.specs.Lists.{nth, set_nth, len, reversed, repeat, walk}
use Rattle.model.specs.State.{Picker, max_pieces, list_of, with_recent_extents, pieces_in, blocks_per_piece}
use Rattle.model.specs.Options.{on_parole, sequential, rarest_first, backup1, partial_loops, suggest_loops, reverse_rare_loops, rare_loops}
use Rattle.model.specs.Options.{rand_start_loops, rand_loops, busy_loops}
use Rattle.model.specs.list.Order.{drawing, rank, draw, update_pieces}
use Rattle.model.specs.change.Partials.{in_queue}
use Rattle.model.specs.pick.Blocks.{PickRequest, option, PickState, start_state, spent, with_out, with_backup, with_picker, ignore}
use Rattle.model.specs.pick.Blocks.{flagged, steps, append_blocks, enough_aside}
use Rattle.model.specs.pick.Pick.{effective_request, start_pick, pick_partials, suggest, pick_suggested, rare_step, reverse_rare_step}
use Rattle.model.specs.pick.Pick.{forget_extent, trace, lap_step, walk_over, ring_fuel, pick_random, pick_end_game, with_list_updated}
use Rattle.model.specs.pick.Pick.{pick_listed, pick_main, pick_rest, pick_pieces}
use Rattle.model.specs.image.Sound.{Sound}
use Rattle.model.specs.Calls.{request_fits}
use Rattle.model.proofs.base.Bep3Laws.{num_pieces_pos}
use Rattle.model.proofs.base.WalkLaws.{unless_keeps, walk_raises}
use Rattle.model.proofs.pick.FrameLaws.{Blind, backup_keeps, any_partial}
use Rattle.model.proofs.pick.PhaseLaws.{Kept, blind_kept, kept_both, pick_partials_keeps, suggest_keeps, pick_suggested_keeps}
use Rattle.model.proofs.pick.PhaseLaws.{rare_keeps, reverse_rare_keeps, rare_walk_keeps, reverse_walk_keeps, pick_listed_ends}
use Rattle.model.proofs.pick.PhaseLaws.{pick_end_game_keeps, before_main, before_main_keeps, phases_ends, start_pick_keeps}
use Rattle.model.proofs.pick.PhaseLaws.{asked_suggestions, start_more}
use Rattle.pick_laws.proofs.CounterLaws.{counter, begin_zero, counter_step, counter_blind, counter_flag, counter_keeps}
use Rattle.pick_laws.proofs.CounterLaws.{counter_kept}
use Rattle.model.proofs.list.ListedLaws.{listed_length_le}
use Rattle.model.proofs.list.ListingLaws.{update_pieces_listed}
use Rattle.model.proofs.pick.SoundPick.{Fitting, ask_fits, sound_sized}
use Rattle.pick_laws.proofs.BoundLaws.{Tight, small, step_tight}
use Rattle.pick_laws.proofs.OutputLaws.{bounded_kept, start_bounded}
use Rattle.pick_laws.proofs.RandLoops.{rand_loops_lem}
use Rattle.pick_laws.proofs.RingLaws.{Ready, ring_over, ring_skips}
use Rattle.pick_laws.proofs.LoopFrame.{counter_drawn, counter_tried, counter_found, upto_partials, upto_suggested, upto_random}
use Rattle.pick_laws.proofs.LoopFrame.{upto_listed, upto_main, upto_rest}
use Rattle.model.proofs.base.Phases.{branch_arms}
use Rattle.pick_laws.proofs.AsideLaws.{filter_size}

-- ---- where a pick begins
queue_size : (q : Picker) → len (in_queue Downloading q) ≤ len q.partials
unfolding in_queue len
queue_size q = filter_size _ q.partials (length q.partials) refl

module _ (s : Picker) (a : PickRequest) where
  start_zero : (k : ℕ) → counter k (start_pick s a) ≤ 0
  start_zero k = start_pick_keeps s a (λ w. counter k w ≤ 0) (counter_flag k 0) (begin_zero s (effective_request s a) k)

  start_picker : (start_pick s a).picker ≡ s
  unfolding flagged start_state
  start_picker = start_pick_keeps s a (λ w. w.picker ≡ s) (λ f w g. g) refl

  begin_marks : length (start_state s (effective_request s a)).ignored ≡ 4096
  unfolding start_state
  begin_marks = length-replicate max_pieces false

  start_marks : length (start_pick s a).ignored ≡ 4096
  unfolding flagged
  start_marks = start_pick_keeps s a (λ w. length w.ignored ≡ 4096) (λ f w g. g) begin_marks

-- ---- the picker and a counter together
module _ (s : Picker) (k m : ℕ) where
  -- the picker is s, there are 4,096 marks, and the counter is at most m
  Still : PickState → Type 0
  Still w = (w.picker ≡ s) × (length w.ignored ≡ 4096) × (counter k w ≤ m)

  still_blind : Blind Still
  unfolding Still counter with_out with_backup ignore set_nth
  still_blind = record { out = λ n r bs w h. h; backup = λ bs w h. h; marks = λ i w h. (h.0, length-set w.ignored i true ∙ h.1, h.2) }

  still_flag : (f : ℕ) (w : PickState) → Still w → Still (flagged f w)
  unfolding Still counter flagged
  still_flag f w h = h

  still_step : (n c : ℕ) → (k ≡ c → ⊥) → (w : PickState) → Still w → Still (steps n c w)
  unfolding Still steps
  still_step n c d w h = (h.0, h.1, counter_keeps k m n c w d h.2)

  still_kept : (a : PickRequest) → (k ≡ rand_loops → ⊥) → Kept a any_partial Still
  still_kept a d = blind_kept a Still still_blind still_flag (still_step 1 rand_loops d)

-- ---- a short list and a counter together
size_reversed : (l : List ℕ) → len (reversed l) ≡ len l
unfolding len reversed
size_reversed [] = refl
size_reversed (x ∷ l) = omega (arith, length-append (reversed l) (x ∷ []), size_reversed l)

module _ (k : ℕ) where
  -- the list has at most 4,096 places, and nothing is counted yet
  Short : PickState → Type 0
  Short w = (len (list_of w.picker.listing) ≤ 4096) × (counter k w ≤ 0)

  short_step : (n c : ℕ) → (k ≡ c → ⊥) → (w : PickState) → Short w → Short (steps n c w)
  unfolding Short steps
  short_step n c d w h = (h.0, counter_keeps k 0 n c w d h.1)

  short_kept : (a : PickRequest) → (k ≡ rand_loops → ⊥) → Kept a any_partial Short
  unfolding Short counter with_out with_backup ignore flagged
  short_kept a d =
      blind_kept a Short (record { out = λ n r bs w h. h; backup = λ bs w h. h; marks = λ i w h. h }) (λ f w h. h) (short_step 1 rand_loops d)

  short_forgets : (o : Option ℕ) (w : PickState) → Short w → Short (forget_extent o w)
  unfolding Short counter forget_extent with_picker with_recent_extents
  short_forgets none w h = h
  short_forgets (some i) w h = h

-- ---- the counters of a pick
module _ (ds : List ℕ) (s : Picker) (a : PickRequest) (h : Sound s) (f : request_fits s a ≡ true) where
  fits : Fitting a
  fits = ask_fits s a f

  more : enough_aside (start_pick s a) ≡ false
  more = start_more s a fits.some

  few_partials : (q : Picker) → q ≡ s → len (in_queue Downloading q) ≤ 512
  few_partials q e = rw e (omega (arith, h.few, queue_size s))

  -- at most 512 partials are counted
  pub partial_loops_lem : counter partial_loops (pick_pieces ds s a) ≤ 512
  unfolding pick_pieces
  partial_loops_lem =
      let b = effective_request s a in
      let w = start_pick s a in
      let z = start_zero s a partial_loops in
      phases_ends ds b (λ v. counter partial_loops v ≤ 512) (λ v. counter partial_loops v ≤ 512) (λ v. counter partial_loops v ≤ 512)
      (λ v. counter partial_loops v ≤ 512)
      (λ v g. g) (upto_suggested partial_loops 512 b (λ e. omega arith) (λ e. omega arith))
      (λ v g. g) (upto_main partial_loops 512 b (λ e. omega arith) (λ e. omega arith) (λ e. omega arith) (λ e. omega arith) ds)
      (λ v g. g) (upto_rest partial_loops 512 b (λ e. omega arith) (λ e. omega arith) ds) w
      (pick_partials_keeps b any_partial (λ v. counter partial_loops v ≤ 512) (counter_kept partial_loops 512 b (λ e. omega arith)) w more (omega arith)
      (omega (arith, counter_step (len (in_queue Downloading w.picker)) partial_loops w, few_partials w.picker (start_picker s a))))

  suggested_count : (w : PickState) → spent w ≡ false → counter suggest_loops w ≤ 0 → counter suggest_loops (pick_suggested (effective_request s a) w) ≤ 256
  unfolding pick_suggested
  suggested_count w z g =
      let b = effective_request s a in
      let l = walk_raises (λ m v. counter suggest_loops v ≤ m) (λ m n v l k. omega arith) (suggest b) spent
      (λ m i v e k. suggest_keeps b any_partial (λ u. counter suggest_loops u ≤ m + 1) (counter_kept suggest_loops (m + 1) b (λ q. omega arith)) i v e
      (omega (arith, counter_step 1 suggest_loops v)))
      b.suggestions 0 w z g in
      omega (arith, fits.suggestions, ap len (asked_suggestions s a))

  -- at most 256 suggestions
  pub suggest_loops_lem : counter suggest_loops (pick_pieces ds s a) ≤ 256
  unfolding pick_pieces
  suggest_loops_lem =
      let b = effective_request s a in
      phases_ends ds b (λ v. counter suggest_loops v ≤ 0) (λ v. counter suggest_loops v ≤ 256) (λ v. counter suggest_loops v ≤ 256)
      (λ v. counter suggest_loops v ≤ 256)
      (λ v g. omega arith) suggested_count
      (λ v g. g) (upto_main suggest_loops 256 b (λ e. omega arith) (λ e. omega arith) (λ e. omega arith) (λ e. omega arith) ds)
      (λ v g. g) (upto_rest suggest_loops 256 b (λ e. omega arith) (λ e. omega arith) ds) (start_pick s a)
      (upto_partials suggest_loops 0 b (λ e. omega arith) (λ e. omega arith) (start_pick s a) more (start_zero s a suggest_loops))

  -- ---- the list
  -- a refreshed list is no longer than there are pieces
  list_size : (t : ℕ) → len (list_of (update_pieces ds (drawing t s)).picker.listing) ≤ 4096
  unfolding len drawing
  list_size t = omega (arith, (sound_sized s h).few, listed_length_le (rank s) (pieces_in s) _ (update_pieces_listed ds (drawing t s) h.list))

  refreshed_short : (k : ℕ) (w : PickState) → Still s k 0 w → Short k (with_list_updated ds w)
  unfolding Still Short with_list_updated with_picker counter
  refreshed_short k w g = (rw g.0 (list_size w.used), g.2)

  start_still : (k : ℕ) → Still s k 0 (start_pick s a)
  unfolding Still
  start_still k = (start_picker s a, start_marks s a, start_zero s a k)

  partials_still : (k : ℕ) → (k ≡ rand_loops → ⊥) → (k ≡ partial_loops → ⊥) → Still s k 0 (pick_partials (effective_request s a) (start_pick s a))
  partials_still k d e =
      let w = start_pick s a in
      pick_partials_keeps (effective_request s a) any_partial (Still s k 0) (still_kept s k 0 (effective_request s a) d) w more (start_still k)
      (still_step s k 0 (len (in_queue Downloading w.picker)) partial_loops e w (start_still k))

  -- a walk over the list that counts
  rare_count : (w : PickState) → spent w ≡ false → Short rare_loops w
      → counter rare_loops (walk (rare_step (effective_request s a)) spent (list_of w.picker.listing) w) ≤ 4096
  unfolding Short
  rare_count w z g =
      let b = effective_request s a in
      let l = walk_raises (λ m v. counter rare_loops v ≤ m) (λ m n v l k. omega arith) (rare_step b) spent
      (λ m i v e k. rare_keeps b any_partial (λ u. counter rare_loops u ≤ m + 1) (counter_kept rare_loops (m + 1) b (λ q. omega arith)) i v e
      (omega (arith, counter_step 1 rare_loops v)))
      (list_of w.picker.listing) 0 w z g.1 in
      omega (arith, g.0)

  reverse_count : (w : PickState) → spent w ≡ false → Short reverse_rare_loops w
      → counter reverse_rare_loops (walk (reverse_rare_step (effective_request s a)) spent (reversed (list_of w.picker.listing)) w) ≤ 4096
  unfolding Short
  reverse_count w z g =
      let b = effective_request s a in
      let l = walk_raises (λ m v. counter reverse_rare_loops v ≤ m) (λ m n v l k. omega arith) (reverse_rare_step b) spent
      (λ m i v e k. reverse_rare_keeps b any_partial (λ u. counter reverse_rare_loops u ≤ m + 1) (counter_kept reverse_rare_loops (m + 1) b (λ q. omega arith)) i v e
      (omega (arith, counter_step 1 reverse_rare_loops v)))
      (reversed (list_of w.picker.listing)) 0 w z g.1 in
      omega (arith, g.0, size_reversed (list_of w.picker.listing))

  rare_main : (w : PickState) → spent w ≡ false → Still s rare_loops 0 w → counter rare_loops (pick_main ds (effective_request s a) w) ≤ 4096
  unfolding pick_main Still Short
  rare_main w z g =
      let b = effective_request s a in
      let k = counter_kept rare_loops 4096 b (λ e. omega arith) in
      branch_arms (λ v. counter rare_loops v ≤ 4096) (option sequential b || option rarest_first b) (pick_listed ds b) (pick_random ds b) w
      (λ q. pick_listed_ends b any_partial (Short rare_loops) (Short rare_loops) (λ v. counter rare_loops v ≤ 4096) (short_kept rare_loops b (λ e. omega arith))
      (λ v j. j) (λ v j. omega (arith, j.1)) (short_forgets rare_loops) rare_count
      (λ v e j. reverse_walk_keeps b any_partial (λ u. counter rare_loops u ≤ 4096) k
      (λ u i. counter_keeps rare_loops 4096 1 reverse_rare_loops u (λ o. omega arith) i) v e (omega (arith, j.1)))
      ds w z (refreshed_short rare_loops w g))
      (λ q. upto_random rare_loops 4096 b (λ e. omega arith) (λ e. omega arith) ds w (omega (arith, g.2)))

  reverse_main : (w : PickState) → spent w ≡ false → Still s reverse_rare_loops 0 w → counter reverse_rare_loops (pick_main ds (effective_request s a) w) ≤ 4096
  unfolding pick_main Still Short
  reverse_main w z g =
      let b = effective_request s a in
      let k = counter_kept reverse_rare_loops 4096 b (λ e. omega arith) in
      branch_arms (λ v. counter reverse_rare_loops v ≤ 4096) (option sequential b || option rarest_first b) (pick_listed ds b) (pick_random ds b) w
      (λ q. pick_listed_ends b any_partial (Short reverse_rare_loops) (Short reverse_rare_loops) (λ v. counter reverse_rare_loops v ≤ 4096)
      (short_kept reverse_rare_loops b (λ e. omega arith)) (λ v j. j) (λ v j. omega (arith, j.1)) (short_forgets reverse_rare_loops)
      (λ v e j. rare_walk_keeps b any_partial (λ u. counter reverse_rare_loops u ≤ 4096) k
      (λ u i. counter_keeps reverse_rare_loops 4096 1 rare_loops u (λ o. omega arith) i) v e (omega (arith, j.1)))
      reverse_count ds w z (refreshed_short reverse_rare_loops w g))
      (λ q. upto_random reverse_rare_loops 4096 b (λ e. omega arith) (λ e. omega arith) ds w (omega (arith, g.2)))

  -- at most 4,096 places of the list
  pub rare_loops_lem : counter rare_loops (pick_pieces ds s a) ≤ 4096
  unfolding pick_pieces Still
  rare_loops_lem =
      let b = effective_request s a in
      phases_ends ds b (Still s rare_loops 0) (Still s rare_loops 0) (λ v. counter rare_loops v ≤ 4096) (λ v. counter rare_loops v ≤ 4096)
      (λ v g. g) (pick_suggested_keeps b any_partial (Still s rare_loops 0) (still_kept s rare_loops 0 b (λ e. omega arith)) (still_step s rare_loops 0 1 suggest_loops (λ e. omega arith)))
      (λ v g. omega (arith, g.2)) rare_main
      (λ v g. g) (upto_rest rare_loops 4096 b (λ e. omega arith) (λ e. omega arith) ds) (start_pick s a)
      (partials_still rare_loops (λ e. omega arith) (λ e. omega arith))

  -- at most 4,096 places of the list walked backwards
  pub reverse_rare_loops_lem : counter reverse_rare_loops (pick_pieces ds s a) ≤ 4096
  unfolding pick_pieces Still
  reverse_rare_loops_lem =
      let b = effective_request s a in
      phases_ends ds b (Still s reverse_rare_loops 0) (Still s reverse_rare_loops 0) (λ v. counter reverse_rare_loops v ≤ 4096)
      (λ v. counter reverse_rare_loops v ≤ 4096)
      (λ v g. g)
      (pick_suggested_keeps b any_partial (Still s reverse_rare_loops 0) (still_kept s reverse_rare_loops 0 b (λ e. omega arith))
      (still_step s reverse_rare_loops 0 1 suggest_loops (λ e. omega arith)))
      (λ v g. omega (arith, g.2)) reverse_main
      (λ v g. g) (upto_rest reverse_rare_loops 4096 b (λ e. omega arith) (λ e. omega arith) ds) (start_pick s a)
      (partials_still reverse_rare_loops (λ e. omega arith) (λ e. omega arith))

  -- ---- the end game
  busy_rest : (w : PickState) → spent w ≡ false → counter busy_loops w ≤ 0 → counter busy_loops (pick_rest ds (effective_request s a) w) ≤ 200
  unfolding pick_rest
  busy_rest w z g =
      let b = effective_request s a in
      let u = flagged backup1 w in
      let v = append_blocks u in
      let k = backup_keeps (λ t. counter busy_loops t ≤ 0) (counter_blind busy_loops 0) u (counter_flag busy_loops 0 backup1 w g) in
      unless_keeps (λ t. counter busy_loops t ≤ 200) (spent v || option on_parole b) (pick_end_game ds b) v (omega arith)
      (λ e. pick_end_game_keeps (λ n t. counter busy_loops t + n ≤ 200) (λ t. counter busy_loops t ≤ 200)
      (λ n t j. omega (arith, counter_tried busy_loops t, counter_step 1 busy_loops t)) (λ n t i l j. omega (arith, counter_found busy_loops i l t)) (λ n t j. omega arith)
      ds b v (omega arith))

  -- at most 200 tries of the end game
  pub busy_loops_lem : counter busy_loops (pick_pieces ds s a) ≤ 200
  unfolding pick_pieces
  busy_loops_lem =
      let b = effective_request s a in
      phases_ends ds b (λ v. counter busy_loops v ≤ 0) (λ v. counter busy_loops v ≤ 0) (λ v. counter busy_loops v ≤ 0) (λ v. counter busy_loops v ≤ 200)
      (λ v g. g) (upto_suggested busy_loops 0 b (λ e. omega arith) (λ e. omega arith))
      (λ v g. g) (upto_main busy_loops 0 b (λ e. omega arith) (λ e. omega arith) (λ e. omega arith) (λ e. omega arith) ds)
      (λ v g. omega arith) busy_rest (start_pick s a)
      (upto_partials busy_loops 0 b (λ e. omega arith) (λ e. omega arith) (start_pick s a) more (start_zero s a busy_loops))

  -- ---- the random walk
  -- what it starts from: its bounds, the picker, and the counter of steps skipped at 0
  Poised : PickState → Type 0
  Poised w = Tight (blocks_per_piece s) a.wanted a.contiguous (a.wanted + a.contiguous + 255) w × Still s rand_start_loops 0 w

  poised_kept : Kept (effective_request s a) small Poised
  unfolding Poised
  poised_kept =
      kept_both (effective_request s a) small (Tight (blocks_per_piece s) a.wanted a.contiguous (a.wanted + a.contiguous + 255)) (Still s rand_start_loops 0)
      (bounded_kept (blocks_per_piece s) a.wanted a.contiguous fits.wanted (effective_request s a)) (still_kept s rand_start_loops 0 (effective_request s a) (λ e. omega arith))

  poised_step : (n c : ℕ) → (rand_start_loops ≡ c → ⊥) → (w : PickState) → Poised w → Poised (steps n c w)
  unfolding Poised
  poised_step n c d w g =
      (step_tight (blocks_per_piece s) a.wanted a.contiguous (a.wanted + a.contiguous + 255) n c w g.0, still_step s rand_start_loops 0 n c d w g.1)

  start_poised : Poised (start_pick s a)
  unfolding Poised
  start_poised = (start_bounded ds s a h f, start_still rand_start_loops)

  -- the draw
  drawn : PickState → PickState
  drawn w = with_picker w.picker (suc w.used) w

  poised_ready : (w : PickState) → Poised w → Ready s a.wanted a.contiguous (drawn w)
  unfolding Poised Still drawn with_picker Tight
  poised_ready w g = record { picker = g.1.0; tight = g.0; marks = g.1.1 }

  start_inside : (w : PickState) → w.picker ≡ s → draw ds w.used (pieces_in w.picker - 1) < pieces_in s
  unfolding draw
  start_inside w e =
      let n = num_pieces_pos s.total_size s.piece_size (sound_sized s h).total_size (sound_sized s h).some in
      let k = mod-lt (nth 0 ds w.used) {m = suc (pieces_in s - 1)} (omega arith) in
      rw e (omega (arith, h.many))

  poised_picker : (w : PickState) → Poised w → w.picker ≡ s
  unfolding Poised Still
  poised_picker w g = g.1.0

  poised_zero : (w : PickState) → Poised w → counter rand_start_loops w ≤ 0
  unfolding Poised Still
  poised_zero w g = g.1.2

  random_count : (w : PickState) → Poised w → counter rand_start_loops (pick_random ds (effective_request s a) w) ≤ 33554432
  unfolding pick_random drawn
  random_count w g =
      let l = ring_skips s a.wanted a.contiguous fits.wanted h (effective_request s a) (draw ds w.used (pieces_in w.picker - 1)) (start_inside w (poised_picker w g))
      (drawn w) (poised_ready w g) in
      omega (arith, counter_drawn rand_start_loops w, poised_zero w g)

  random_main : (w : PickState) → spent w ≡ false → Poised w → counter rand_start_loops (pick_main ds (effective_request s a) w) ≤ 33554432
  unfolding pick_main
  random_main w z g =
      let b = effective_request s a in
      branch_arms (λ v. counter rand_start_loops v ≤ 33554432) (option sequential b || option rarest_first b) (pick_listed ds b) (pick_random ds b) w
      (λ q. upto_listed rand_start_loops 33554432 b (λ e. omega arith) (λ e. omega arith) (λ e. omega arith) ds w z (omega (arith, poised_zero w g))) (λ q. random_count w g)

  -- at most 33,554,432 steps skipped in the random walk
  pub rand_start_loops_lem : counter rand_start_loops (pick_pieces ds s a) ≤ 33554432
  unfolding pick_pieces
  rand_start_loops_lem =
      let b = effective_request s a in
      let w = start_pick s a in
      phases_ends ds b Poised Poised (λ v. counter rand_start_loops v ≤ 33554432) (λ v. counter rand_start_loops v ≤ 33554432)
      (λ v g. g) (pick_suggested_keeps b small Poised poised_kept (poised_step 1 suggest_loops (λ e. omega arith)))
      (λ v g. omega (arith, poised_zero v g)) random_main
      (λ v g. g) (upto_rest rand_start_loops 33554432 b (λ e. omega arith) (λ e. omega arith) ds) w
      (pick_partials_keeps b small Poised poised_kept w more start_poised (poised_step (len (in_queue Downloading w.picker)) partial_loops (λ e. omega arith) w start_poised))

  before_poised : Poised (before_main (effective_request s a) (start_pick s a))
  before_poised =
      before_main_keeps ds (effective_request s a) small Poised Poised Poised poised_kept (λ n w g. poised_step n partial_loops (λ e. omega arith) w g) (poised_step 1 suggest_loops (λ e. omega arith))
      (start_pick s a) more start_poised

  -- the turns of a pick's random walk suffice: it comes to its end
  pub pick_ring_over :
      let w = before_main (effective_request s a) (start_pick s a) in
      let start = draw ds w.used (pieces_in w.picker - 1) in
      let v = with_picker w.picker (suc w.used) w in
      walk_over (repeat ring_fuel (lap_step (effective_request s a) start) walk_over (record { work = v; place = start; back = false; seen = trace v; over = false })) ≡ true
  unfolding drawn
  pick_ring_over =
      let w = before_main (effective_request s a) (start_pick s a) in
      ring_over s a.wanted a.contiguous fits.wanted h (effective_request s a) (draw ds w.used (pieces_in w.picker - 1)) (start_inside w (poised_picker w before_poised))
      (drawn w) (poised_ready w before_poised)

  -- ---- all of them
  -- each fits 32 bits, and 26 are enough
  pub pick_counters : (k : ℕ) → k < 7 → nth 0 (pick_pieces ds s a).loops k ≤ 33554432
  unfolding counter
  pick_counters zero l = omega (arith, partial_loops_lem)
  pick_counters (suc zero) l = omega (arith, suggest_loops_lem)
  pick_counters (suc (suc zero)) l = omega (arith, reverse_rare_loops_lem)
  pick_counters (suc (suc (suc zero))) l = omega (arith, rare_loops_lem)
  pick_counters (suc (suc (suc (suc zero)))) l = omega (arith, rand_start_loops_lem)
  pick_counters (suc (suc (suc (suc (suc zero))))) l = omega (arith, rand_loops_lem ds s a h f, fits.wanted, fits.contiguous)
  pick_counters (suc (suc (suc (suc (suc (suc zero)))))) l = omega (arith, busy_loops_lem)
  pick_counters (suc (suc (suc (suc (suc (suc (suc k))))))) l = absurd (omega arith)
