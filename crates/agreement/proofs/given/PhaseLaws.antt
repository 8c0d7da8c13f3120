-- The phases of a pick up to the backup blocks give and set aside only what may be given. Assumes nothing.
use mathlib.Core.Path.{◌≡◌, sym, subst, ◌∙◌}
use Prim.Native.Nat.{ℕ, suc, ◌-◌}
use mathlib.Core.Bool.{true, false, not, ◌&&◌, ◌||◌}
use mathlib.Core.List.{List}
use mathlib.Core.Option.{Option, none, some}
use lib.Dec.{eqb}
use borrow.Author.Tests.{not-false}
use Rattle.types.specs.declared.queue.DownloadQueue.TheVariants.{Downloading}
use Rattle.types.specs.Queue.{unreverse}
use Rattle.model.specs.Lists.{from, range, range_down, filter, nth, len, remove_nth, reversed, when, walk, sort_by}
use Rattle.model.specs.State.{Piece, DownloadingPiece, Picker, same_queue, is_open, list_of, piece_at, pieces_in, extent_start, extent_end}
use Rattle.model.specs.Options.{reverse, prioritize_partials, sequential, rarest_first, piece_extent_affinity}
use Rattle.model.specs.Options.{prioritized_partials, rarest_first_partials, rarest_first_pieces, reverse_rarest_first}
use Rattle.model.specs.Options.{suggested_pieces, prio_sequential_pieces, sequential_pieces, random_pieces, reverse_sequential}
use Rattle.model.specs.Options.{extent_affinity, partial_loops, suggest_loops, reverse_rare_loops, rare_loops, rand_start_loops}
use Rattle.model.specs.list.Order.{draw}
use Rattle.model.specs.change.Partials.{partial_of, in_queue}
use Rattle.model.specs.pick.Blocks.{PickRequest, option, PieceBlock, PickState, spent, with_picker, ignore, flagged, steps, contiguous_above}
use Rattle.model.specs.pick.Blocks.{is_piece_free, can_pick, add_blocks, append_blocks, enough_aside, is_ignored}
use Rattle.model.specs.pick.Pick.{usable, by_rarity, ordered_partials, partial_compare_rarest_first, partial_step, walk_partials, pick_scanned}
use Rattle.model.specs.pick.Pick.{scan_partials, pick_partials, visit, suggest, pick_suggested, leading_top, visit_below_top, pick_range}
use Rattle.model.specs.pick.Pick.{pick_sequential, in_range, visit_outside, rare_step, reverse_rare_step, ExtentWalk, extent_step, forget_extent}
use Rattle.model.specs.pick.Pick.{pick_extents, pick_forward, pick_rarest, stands_open, trace, RandomWalk, skip_step, skip_done, skip}
use Rattle.model.specs.pick.Pick.{arrive, random_span, random_piece, random_visit, ended, marked, lap_ends, lap_from, lap_step, walk_over}
use Rattle.model.specs.pick.Pick.{ring_fuel, ring, pick_random, with_list_updated, pick_listed, pick_main, same_trace}
use Rattle.model.proofs.base.WalkLaws.{unless_keeps, when_keeps, repeat_keeps, walk_until_keeps}
use Rattle.model.proofs.base.Phases.{branch_arms, cond_arms}
use Rattle.model.proofs.base.Truths.{and_left, and_right, or_no_left, true_both}
use Rattle.model.proofs.pick.ScanLaws.{scan_work, scan_partials_lem}
use Rattle.agreement.proofs.given.EachLaws.{Each, each-filter, each_so, each_sort, walk-each}
use Rattle.agreement.proofs.given.LikeLaws.{like_piece, like_free, like_updated, like_extents}
use Rattle.agreement.proofs.given.AddLaws.{Usable, Allows, Clean, clean_flag, clean_steps, clean_ignore, clean_picker, clean_append}
use Rattle.agreement.proofs.given.AddLaws.{clean_downloading, clean_blocks, clean_span}

module _ (s : Picker) (a : PickRequest) (Ok : PieceBlock → Type 0) (ok : Allows s a Ok)
    (named : (i : ℕ) (d : DownloadingPiece) → partial_of s i ≡ some d → d.piece ≡ i)
    (found : Each (λ d. partial_of s d.piece ≡ some d) s.partials) where
  -- ---- partials
  -- those found can be used
  scanned_usable : (w : PickState) → Clean s Ok w → Each (Usable s a) (scan_partials a w).partials
  unfolding in_queue usable
  scanned_usable w h =
      let q = w.picker in
      let same : (i : ℕ) → piece_at q i ≡ piece_at s i = like_piece s q h.like in
      let ds : Each (λ d. partial_of s d.piece ≡ some d) q.partials = subst (Each (λ d. partial_of s d.piece ≡ some d))
      (sym h.like.partials) found in
      rw (scan_partials_lem a w)
      (each_so (λ d g. record {
        partial = g.0.0;
        free = sym (like_free s q h.like a d.piece) ∙ and_left (is_piece_free a q d.piece) (not d.locked) g.1;
        state = subst (λ (x : Piece). same_queue (unreverse x.state) Downloading ≡ true) (same d.piece) g.0.1;
      }) (filter (usable a q) (in_queue Downloading q))
      (each-filter (usable a q) (in_queue Downloading q)
      (each-filter (λ d. same_queue (unreverse (piece_at q d.piece).state) Downloading) q.partials ds)))

  walk_partials_clean : (ds : List DownloadingPiece) (w : PickState) → Each (Usable s a) ds → Clean s Ok w → Clean s Ok (walk_partials a ds w)
  unfolding walk_partials partial_step walk
  walk_partials_clean ds w u h =
      let v = walk (partial_step a) enough_aside ds w in
      let g : Clean s Ok v =
      walk-each (Clean s Ok) (partial_step a)
      (λ d t o j. clean_downloading s a Ok ok d (flagged prioritized_partials t) o (clean_flag s Ok t j prioritized_partials))
      (λ d t. enough_aside (partial_step a d t)) ds w u h in
      unless_keeps (Clean s Ok) (spent v) append_blocks v g (λ e. clean_append s Ok v g)

  pub pick_partials_clean : (w : PickState) → Clean s Ok w → Clean s Ok (pick_partials a w)
  unfolding pick_partials pick_scanned ordered_partials
  pick_partials_clean w h =
      let x = scan_partials a w in
      let v = x.work in
      let ds = x.partials in
      let u = scanned_usable w h in
      let j : Clean s Ok v = rw (scan_work a w) (clean_steps s Ok w h (len (in_queue Downloading w.picker)) partial_loops) in
      let g = when_keeps (Clean s Ok) (by_rarity a) (flagged rarest_first_partials) v j (λ q. clean_flag s Ok v j rarest_first_partials) in
      let c = cond_arms (Each (Usable s a)) (by_rarity a) (sort_by (partial_compare_rarest_first v.picker) ds) ds
      (λ e. each_sort (partial_compare_rarest_first v.picker) ds u) (λ e. u) in
      when_keeps (Clean s Ok) (option prioritize_partials a) (λ t. pick_scanned a (scan_partials a t)) w h
      (λ e. walk_partials_clean (ordered_partials a v.picker ds) (when (by_rarity a) (flagged rarest_first_partials) v) c g)

  -- ---- walks over pieces
  visit_clean : (f i : ℕ) (w : PickState) → Clean s Ok w → Clean s Ok (visit a f i w)
  unfolding visit
  visit_clean f i w h =
      when_keeps (Clean s Ok) (is_piece_free a w.picker i) (λ v. add_blocks a i (flagged f v)) w h
      (λ e. clean_blocks s a Ok ok named i (flagged f w) (sym (like_free s w.picker h.like a i) ∙ e) (clean_flag s Ok w h f))

  below_clean : (f i : ℕ) (w : PickState) → Clean s Ok w → Clean s Ok (visit_below_top a f i w)
  unfolding visit_below_top
  below_clean f i w h = unless_keeps (Clean s Ok) (eqb (piece_at w.picker i).priority 7) (visit a f i) w h (λ e. visit_clean f i w h)

  outside_clean : (f i : ℕ) (w : PickState) → Clean s Ok w → Clean s Ok (visit_outside a f i w)
  unfolding visit_outside
  outside_clean f i w h = unless_keeps (Clean s Ok) (in_range a w.picker i) (visit a f i) w h (λ e. visit_clean f i w h)

  suggest_clean : (i : ℕ) (w : PickState) → Clean s Ok w → Clean s Ok (suggest a i w)
  unfolding suggest steps
  suggest_clean i w h =
      let v = steps 1 suggest_loops w in
      let k = clean_steps s Ok w h 1 suggest_loops in
      when_keeps (Clean s Ok) (is_piece_free a w.picker i) (λ u. ignore i (add_blocks a i (flagged suggested_pieces u))) v k
      (λ e. clean_ignore s Ok (add_blocks a i (flagged suggested_pieces v))
      (clean_blocks s a Ok ok named i (flagged suggested_pieces v) (sym (like_free s w.picker h.like a i) ∙ e)
      (clean_flag s Ok v k suggested_pieces)) i)

  pub pick_suggested_clean : (w : PickState) → Clean s Ok w → Clean s Ok (pick_suggested a w)
  unfolding pick_suggested walk
  pick_suggested_clean w h = walk_until_keeps (Clean s Ok) (suggest a) (λ i t. spent (suggest a i t)) suggest_clean a.suggestions w h

  -- ---- sequential
  pieces_clean : (step : ℕ → PickState → PickState) → ((i : ℕ) (w : PickState) → Clean s Ok w → Clean s Ok (step i w))
      → (is : List ℕ) (w : PickState) → Clean s Ok w → Clean s Ok (walk step spent is w)
  unfolding walk
  pieces_clean step f is w h = walk_until_keeps (Clean s Ok) step (λ i t. spent (step i t)) f is w h

  range_clean : (w : PickState) → Clean s Ok w → Clean s Ok (pick_range a w)
  unfolding pick_range
  range_clean w h =
      let q = w.picker in
      branch_arms (Clean s Ok) (option reverse a)
      (walk (visit_below_top a reverse_sequential) spent (range_down q.cursor q.reverse_cursor))
      (walk (visit_below_top a sequential_pieces) spent (range q.cursor q.reverse_cursor)) w
      (λ e. pieces_clean (visit_below_top a reverse_sequential) (below_clean reverse_sequential) (range_down q.cursor q.reverse_cursor) w h)
      (λ e. pieces_clean (visit_below_top a sequential_pieces) (below_clean sequential_pieces) (range q.cursor q.reverse_cursor) w h)

  sequential_clean : (w : PickState) → Clean s Ok w → Clean s Ok (pick_sequential a w)
  unfolding pick_sequential
  sequential_clean w h =
      let is = leading_top w.picker (list_of w.picker.listing) in
      let v = walk (visit a prio_sequential_pieces) spent is w in
      let g = pieces_clean (visit a prio_sequential_pieces) (visit_clean prio_sequential_pieces) is w h in
      unless_keeps (Clean s Ok) (spent v) (pick_range a) v g (λ e. range_clean v g)

  -- ---- rarest first
  rare_clean : (i : ℕ) (w : PickState) → Clean s Ok w → Clean s Ok (rare_step a i w)
  unfolding rare_step
  rare_clean i w h = outside_clean rarest_first_pieces i (steps 1 rare_loops w) (clean_steps s Ok w h 1 rare_loops)

  reverse_rare_clean : (i : ℕ) (w : PickState) → Clean s Ok w → Clean s Ok (reverse_rare_step a i w)
  unfolding reverse_rare_step
  reverse_rare_clean i w h = outside_clean reverse_rarest_first i (steps 1 reverse_rare_loops w) (clean_steps s Ok w h 1 reverse_rare_loops)

  extent_clean : (k : ℕ) (x : ExtentWalk) → Clean s Ok x.work → Clean s Ok (extent_step a k x).work
  unfolding extent_step
  extent_clean k x h =
      let q = x.work.picker in
      let e = nth 0 q.recent_extents k in
      pieces_clean (visit_outside a extent_affinity) (outside_clean extent_affinity) (range (extent_start q e) (extent_end q e)) x.work h

  forget_clean : (o : Option ℕ) (w : PickState) → Clean s Ok w → Clean s Ok (forget_extent o w)
  unfolding forget_extent
  forget_clean none w h = h
  forget_clean (some k) w h =
      clean_picker s Ok w h _ w.used (like_extents (remove_nth k w.picker.recent_extents) s w.picker h.like)

  extents_clean : (w : PickState) → Clean s Ok w → Clean s Ok (pick_extents a w)
  unfolding pick_extents walk
  extents_clean w h =
      let start : ExtentWalk = record { work = w; finished = none } in
      let x = walk (extent_step a) (λ y. spent y.work) (from 0 (len w.picker.recent_extents)) start in
      forget_clean x.finished x.work
      (walk_until_keeps (λ y. Clean s Ok y.work) (extent_step a) (λ k y. spent (extent_step a k y).work) extent_clean
      (from 0 (len w.picker.recent_extents)) start h)

  forward_clean : (w : PickState) → Clean s Ok w → Clean s Ok (pick_forward a w)
  unfolding pick_forward
  forward_clean w h =
      let v = when (option piece_extent_affinity a) (pick_extents a) w in
      let g = when_keeps (Clean s Ok) (option piece_extent_affinity a) (pick_extents a) w h (λ e. extents_clean w h) in
      unless_keeps (Clean s Ok) (spent v) (λ u. walk (rare_step a) spent (list_of u.picker.listing) u) v g
      (λ e. pieces_clean (rare_step a) rare_clean (list_of v.picker.listing) v g)

  rarest_clean : (w : PickState) → Clean s Ok w → Clean s Ok (pick_rarest a w)
  unfolding pick_rarest
  rarest_clean w h =
      branch_arms (Clean s Ok) (option reverse a) (walk (reverse_rare_step a) spent (reversed (list_of w.picker.listing)))
      (pick_forward a) w
      (λ e. pieces_clean (reverse_rare_step a) reverse_rare_clean (reversed (list_of w.picker.listing)) w h) (λ e. forward_clean w h)

  listed_clean : (ds : List ℕ) (w : PickState) → Clean s Ok w → Clean s Ok (pick_listed ds a w)
  unfolding pick_listed with_list_updated
  listed_clean ds w h =
      let u = with_list_updated ds w in
      let j : Clean s Ok u = clean_picker s Ok w h _ _ (like_updated ds w.used s w.picker h.like) in
      let v = when (option sequential a) (pick_sequential a) u in
      let g = when_keeps (Clean s Ok) (option sequential a) (pick_sequential a) u j (λ e. sequential_clean u j) in
      unless_keeps (Clean s Ok) (spent v) (pick_rarest a) v g (λ e. rarest_clean v g)

  -- ---- random
  skip_clean : (start : ℕ) (x : RandomWalk) → Clean s Ok x.work → Clean s Ok (skip a start x).work
  unfolding skip skip_step
  skip_clean start x h =
      repeat_keeps (λ y. Clean s Ok y.work) (skip_step start) (skip_done a) (λ y e g. clean_steps s Ok y.work g 1 rand_start_loops)
      (pieces_in x.work.picker) (record { work = x.work; place = x.place; back = false; seen = x.seen; over = x.over }) h

  random_visit_clean : (start : ℕ) (x : RandomWalk) → is_piece_free a s x.place ≡ true → Clean s Ok x.work
      → Clean s Ok (random_visit a start x).work
  unfolding random_visit random_span random_piece arrive can_pick
  random_visit_clean start x f h =
      let w = x.work in
      let i = x.place in
      let t = is_open (piece_at w.picker i).state in
      branch_arms (λ y. Clean s Ok y.work) (contiguous_above 1 w.contiguous && t) (random_span a start) (random_piece a start) x
      (λ e. clean_span s a Ok ok i w
      (true_both (is_piece_free a s i) (is_open (piece_at s i).state) f
      (subst (λ (p : Piece). is_open p.state ≡ true) (like_piece s w.picker h.like i)
      (and_right (contiguous_above 1 w.contiguous) t e))) h)
      (λ e. clean_blocks s a Ok ok named i (flagged random_pieces w) f (clean_flag s Ok w h random_pieces))

  -- where a lap does not end the piece may be visited
  open_free : (x : RandomWalk) → Clean s Ok x.work → lap_ends a x ≡ false → is_piece_free a s x.place ≡ true
  unfolding lap_ends stands_open
  open_free x h e =
      let q = x.work.picker in
      let t = is_piece_free a q x.place && not (is_ignored x.place x.work) in
      sym (like_free s q h.like a x.place)
      ∙ and_left (is_piece_free a q x.place) (not (is_ignored x.place x.work))
      (not-false t (or_no_left (not t) (x.back && same_trace (trace x.work) x.seen) e))

  lap_clean : (start : ℕ) (x : RandomWalk) → walk_over x ≡ false → Clean s Ok x.work → Clean s Ok (lap_step a start x).work
  unfolding lap_step lap_from ended marked
  lap_clean start x o h =
      let y = skip a start x in
      let g = skip_clean start x h in
      branch_arms (λ v. Clean s Ok v.work) (lap_ends a y) ended (λ v. random_visit a start (marked v)) y (λ e. g)
      (λ e. random_visit_clean start (marked y) (open_free y g e) g)

  ring_clean : (start : ℕ) (w : PickState) → Clean s Ok w → Clean s Ok (ring a start w)
  unfolding ring
  ring_clean start w h =
      repeat_keeps (λ y. Clean s Ok y.work) (lap_step a start) walk_over (lap_clean start) ring_fuel
      (record { work = w; place = start; back = false; seen = trace w; over = false }) h

  random_clean : (ds : List ℕ) (w : PickState) → Clean s Ok w → Clean s Ok (pick_random ds a w)
  unfolding pick_random
  random_clean ds w h =
      ring_clean (draw ds w.used (pieces_in w.picker - 1)) (with_picker w.picker (suc w.used) w)
      (clean_picker s Ok w h w.picker (suc w.used) h.like)

  -- the main phase
  pub pick_main_clean : (ds : List ℕ) (w : PickState) → Clean s Ok w → Clean s Ok (pick_main ds a w)
  unfolding pick_main
  pick_main_clean ds w h =
      branch_arms (Clean s Ok) (option sequential a || option rarest_first a) (pick_listed ds a) (pick_random ds a) w
      (λ e. listed_clean ds w h) (λ e. random_clean ds w h)
