-- The phases of a pick keep every predicate that each piece, each partial, each mark and each flag keeps. Assumes nothing.
-- Counters, draws, a rebuilt list and a forgotten extent are asked for where a phase has them.
use mathlib.Core.Path.{◌≡◌, refl}
use Prim.Native.Nat.{ℕ, suc, ◌-◌, ◌≤◌}
use native.Mathlib.Omega.{arith}
use mathlib.Core.Bool.{Bool, true, false, ◌&&◌, true≢false}
use mathlib.Core.List.{List, [], ◌∷◌, ◌++◌}
use mathlib.Core.Option.{Option, none}
use lib.Dec.{eqb, ltb}
use borrow.Author.Tests.{ne_eqb, leb-false, lt-leb}
use Rattle.types.specs.declared.queue.DownloadQueue.TheVariants.{Downloading}
use Rattle.model.specs.Lists.{from, range, range_down, filter, every, nth, len, reversed, unless, when, walk, sort_by}
use Rattle.model.specs.State.{DownloadingPiece, Picker, is_open, list_of, piece_at, pieces_in, extent_start, extent_end}
use Rattle.model.specs.Options.{reverse, prioritize_partials, sequential, piece_extent_affinity, partial_ratio, prefer_contiguous}
use Rattle.model.specs.Options.{prioritized_partials, rarest_first_partials, rarest_first_pieces, reverse_rarest_first, suggested_pieces}
use Rattle.model.specs.Options.{prio_sequential_pieces, sequential_pieces, random_pieces, reverse_sequential, end_game, extent_affinity}
use Rattle.model.specs.Options.{partial_loops, suggest_loops, reverse_rare_loops, rare_loops, rand_start_loops, rand_loops, busy_loops}
use Rattle.model.specs.list.Order.{draw}
use Rattle.model.specs.change.Partials.{in_queue}
use Rattle.model.specs.pick.Blocks.{PickRequest, option, PickState, start_state, spent, with_out, with_picker, ignore, flagged, steps}
use Rattle.model.specs.pick.Blocks.{contiguous_above, is_piece_free, expand_piece, pieces_of, piece_block, take_span, add_blocks_downloading}
use Rattle.model.specs.pick.Blocks.{add_blocks, append_blocks, enough_aside}
use Rattle.model.specs.pick.Pick.{is_forced, forced_request, effective_request, start_pick, usable, by_rarity, ordered_partials}
use Rattle.model.specs.pick.Pick.{partial_step, walk_partials, pick_partials, visit, suggest, pick_suggested, leading_top, visit_below_top}
use Rattle.model.specs.pick.Pick.{pick_range, pick_sequential, in_range, visit_outside, rare_step, reverse_rare_step, ExtentWalk, extent_step}
use Rattle.model.specs.pick.Pick.{forget_extent, pick_extents, pick_forward, pick_rarest, trace, RandomWalk, skip_step, skip_done, skip}
use Rattle.model.specs.pick.Pick.{take_all, arrive, random_span, random_piece, random_visit, ended, marked, lap_ends, lap_from, lap_step}
use Rattle.model.specs.pick.Pick.{walk_over, ring_fuel, ring, busy_blocks, max_end_game_pieces, full_partials, EndGame, no_partial}
use Rattle.model.specs.pick.Pick.{end_game_try, end_game_step, end_game_done, pick_end_game, with_list_updated, pick_listed, pick_main, pick_rest}
use Rattle.model.specs.pick.Pick.{phases, scan_partials, partial_compare_rarest_first, pick_scanned}
use Rattle.model.proofs.pick.FrameLaws.{Blind, blind_closed, run_keeps, downloading_keeps, blocks_keeps, backup_keeps, all_keeps}
use Rattle.model.proofs.pick.FrameLaws.{any_partial, Closed}
use Rattle.model.proofs.base.WalkLaws.{unless_keeps, when_keeps, repeat_keeps, repeat_counts, walk_keeps_in, walk_keeps}
use Rattle.model.proofs.base.Truths.{and_left, and_right, or_no_left, or_no_right, true_both}
use Rattle.model.proofs.base.Phases.{cond_arms, branch_arms}
use Rattle.model.proofs.base.SortLaws.{every_sort}
use Rattle.model.proofs.pick.ScanLaws.{scan_work, scan_partials_lem}

-- ---- lists of partials
module _ (ok : DownloadingPiece → Bool) where
  -- those that pass a test too
  pub every-filter : (t : DownloadingPiece → Bool) (ds : List DownloadingPiece) → every ok ds ≡ true → every ok (filter t ds) ≡ true
  unfolding every filter
  every-filter t [] h = refl
  every-filter t (d ∷ ds) h =
      let r = every-filter t ds (and_right (ok d) (every ok ds) h) in
      cond_arms (λ l. every ok l ≡ true) (t d) (d ∷ filter t ds) (filter t ds)
      (λ e. true_both (ok d) (every ok (filter t ds)) (and_left (ok d) (every ok ds) h) r) (λ e. r)

  every_ordered : (a : PickRequest) (s : Picker) (ds : List DownloadingPiece) → every ok ds ≡ true → every ok (ordered_partials a s ds) ≡ true
  unfolding ordered_partials
  every_ordered a s ds h =
      cond_arms (λ l. every ok l ≡ true) (by_rarity a) (sort_by (partial_compare_rarest_first s) ds) ds
      (λ e. every_sort (partial_compare_rarest_first s) ok ds h) (λ e. h)

  every_scanned : (a : PickRequest) (w : PickState) → every ok w.picker.partials ≡ true → every ok (scan_partials a w).partials ≡ true
  unfolding in_queue
  every_scanned a w h =
      rw (scan_partials_lem a w) (every-filter (usable a w.picker) (in_queue Downloading w.picker) (every-filter _ w.picker.partials h))

-- ---- where blocks are wanted
-- more than are set aside
unspent : (w : PickState) → enough_aside w ≡ false → spent w ≡ false
unfolding enough_aside spent
unspent w h = ne_eqb w.left 0 (λ e. let l = leb-false w.left (len w.backup) h in omega arith)

-- flags and counters change nothing of that
module _ (w : PickState) where
  -- a flag
  pub flag_spent : (f : ℕ) → spent w ≡ false → spent (flagged f w) ≡ false
  unfolding spent flagged
  flag_spent f h = h

  -- steps on a counter
  pub step_spent : (n c : ℕ) → spent w ≡ false → spent (steps n c w) ≡ false
  unfolding spent steps
  step_spent n c h = h

  refreshed_spent : (ds : List ℕ) → spent w ≡ false → spent (with_list_updated ds w) ≡ false
  unfolding spent with_list_updated with_picker
  refreshed_spent ds h = h

  flag_more : (f : ℕ) → enough_aside w ≡ false → enough_aside (flagged f w) ≡ false
  unfolding enough_aside flagged
  flag_more f h = h

  step_more : (n c : ℕ) → enough_aside w ≡ false → enough_aside (steps n c w) ≡ false
  unfolding enough_aside steps
  step_more n c h = h

-- what a pick does where blocks are wanted keeps I; `ok` holds of every partial
pub record Kept (a : PickRequest) (ok : DownloadingPiece → Bool) (I : PickState → Type 0) : Type 0 where
  pub ready : (w : PickState) → I w → every ok w.picker.partials ≡ true
  pub flags : (f : ℕ) (w : PickState) → I w → I (flagged f w)
  pub marks : (i : ℕ) (w : PickState) → I w → I (ignore i w)
  pub partial : (d : DownloadingPiece) (w : PickState) → ok d ≡ true → spent w ≡ false → I w → I (add_blocks_downloading a d w)
  pub piece : (i : ℕ) (w : PickState) → spent w ≡ false → I w → I (add_blocks a i w)
  pub span : (i : ℕ) (w : PickState) → spent w ≡ false → I w → I (take_span take_all (pieces_of (expand_piece a i w)) w)
  pub backup : (w : PickState) → spent w ≡ false → I w → I (append_blocks w)

-- a predicate that each block and each mark keeps
pub closed_kept : (a : PickRequest) (ok : DownloadingPiece → Bool) (I : PickState → Type 0) → Closed ok I → ((f : ℕ) (w : PickState) → I w → I (flagged f w))
    → ((w : PickState) → I w → I (steps 1 rand_loops w)) → ((w : PickState) → I w → I (append_blocks w)) → Kept a ok I
closed_kept a ok I c flags counts backup = record {
  ready = c.ready;
  flags = flags;
  marks = c.marks;
  partial = λ d w o z h. downloading_keeps ok I c a d w o h;
  piece = λ i w z h. blocks_keeps ok I c a i w h;
  span = λ i w z h. run_keeps ok I c take_all (all_keeps ok I c counts flags) (pieces_of (expand_piece a i w)) w h;
  backup = λ w z h. backup w h;
}

-- a predicate that does not look at the blocks
pub blind_kept : (a : PickRequest) (I : PickState → Type 0) → Blind I → ((f : ℕ) (w : PickState) → I w → I (flagged f w)) → ((w : PickState) → I w → I (steps 1 rand_loops w))
    → Kept a any_partial I
blind_kept a I k flags counts = closed_kept a any_partial I (blind_closed I k) flags counts (backup_keeps I k)

-- two predicates at once
pub kept_both : (a : PickRequest) (ok : DownloadingPiece → Bool) (I J : PickState → Type 0) → Kept a ok I → Kept a any_partial J → Kept a ok (λ w. I w × J w)
unfolding any_partial
kept_both a ok I J k l = record {
  ready = λ w h. k.ready w h.0;
  flags = λ f w h. (k.flags f w h.0, l.flags f w h.1);
  marks = λ i w h. (k.marks i w h.0, l.marks i w h.1);
  partial = λ d w o z h. (k.partial d w o z h.0, l.partial d w refl z h.1);
  piece = λ i w z h. (k.piece i w z h.0, l.piece i w z h.1);
  span = λ i w z h. (k.span i w z h.0, l.span i w z h.1);
  backup = λ w z h. (k.backup w z h.0, l.backup w z h.1);
}

module _ (a : PickRequest) (ok : DownloadingPiece → Bool) (I : PickState → Type 0) (k : Kept a ok I) where
  -- ---- partials
  walk_partials_keeps : (ds : List DownloadingPiece) (w : PickState) → every ok ds ≡ true → enough_aside w ≡ false → I w → I (walk_partials a ds w)
  unfolding walk_partials partial_step
  walk_partials_keeps ds w q d h =
      let v = walk (partial_step a) enough_aside ds w in
      let g : I v =
      walk_keeps_in I (partial_step a) ok enough_aside
      (λ x t o e j. k.partial x (flagged prioritized_partials t) o (flag_spent t prioritized_partials (unspent t e)) (k.flags prioritized_partials t j))
      ds w q d h in
      unless_keeps I (spent v) append_blocks v g (λ e. k.backup v e g)

  -- the partials' phase, where counting the partials keeps I
  pub pick_partials_keeps : (w : PickState) → enough_aside w ≡ false → I w → I (steps (len (in_queue Downloading w.picker)) partial_loops w)
      → I (pick_partials a w)
  unfolding pick_partials pick_scanned
  pick_partials_keeps w d h i =
      let n = len (in_queue Downloading w.picker) in
      let x = scan_partials a w in
      let v = x.work in
      let m : enough_aside v ≡ false = rw (scan_work a w) (step_more w n partial_loops d) in
      let j : I v = rw (scan_work a w) i in
      let g = when_keeps (λ u. (enough_aside u ≡ false) × I u) (by_rarity a) (flagged rarest_first_partials) v (m, j)
      (λ q. (flag_more v rarest_first_partials m, k.flags rarest_first_partials v j)) in
      when_keeps I (option prioritize_partials a) (λ u. pick_scanned a (scan_partials a u)) w h
      (λ e. walk_partials_keeps (ordered_partials a v.picker x.partials) (when (by_rarity a) (flagged rarest_first_partials) v)
      (every_ordered ok a v.picker x.partials (every_scanned ok a w (k.ready w h))) g.0 g.1)

  -- ---- walks over pieces
  -- a free piece visited
  pub visit_keeps : (f i : ℕ) (w : PickState) → spent w ≡ false → I w → I (visit a f i w)
  unfolding visit
  visit_keeps f i w z h =
      when_keeps I (is_piece_free a w.picker i) (λ v. add_blocks a i (flagged f v)) w h
      (λ e. k.piece i (flagged f w) (flag_spent w f z) (k.flags f w h))

  below_keeps : (f i : ℕ) (w : PickState) → spent w ≡ false → I w → I (visit_below_top a f i w)
  unfolding visit_below_top
  below_keeps f i w z h = unless_keeps I (eqb (piece_at w.picker i).priority 7) (visit a f i) w h (λ e. visit_keeps f i w z h)

  outside_keeps : (f i : ℕ) (w : PickState) → spent w ≡ false → I w → I (visit_outside a f i w)
  unfolding visit_outside
  outside_keeps f i w z h = unless_keeps I (in_range a w.picker i) (visit a f i) w h (λ e. visit_keeps f i w z h)

  -- a suggested piece, counted before
  pub suggest_keeps : (i : ℕ) (w : PickState) → spent w ≡ false → I (steps 1 suggest_loops w) → I (suggest a i w)
  unfolding suggest steps
  suggest_keeps i w z h =
      let v = steps 1 suggest_loops w in
      when_keeps I (is_piece_free a w.picker i) (λ u. ignore i (add_blocks a i (flagged suggested_pieces u))) v h
      (λ e. k.marks i (add_blocks a i (flagged suggested_pieces v))
      (k.piece i (flagged suggested_pieces v) (flag_spent v suggested_pieces (step_spent w 1 suggest_loops z)) (k.flags suggested_pieces v h)))

  -- the suggestions' phase
  pub pick_suggested_keeps : ((w : PickState) → I w → I (steps 1 suggest_loops w)) → (w : PickState) → spent w ≡ false → I w → I (pick_suggested a w)
  unfolding pick_suggested
  pick_suggested_keeps counts w z h = walk_keeps I (suggest a) spent (λ i t e g. suggest_keeps i t e (counts t g)) a.suggestions w z h

  stretch_keeps : (w : PickState) → spent w ≡ false → I w → I (pick_range a w)
  unfolding pick_range
  stretch_keeps w z h =
      let s = w.picker in
      branch_arms I (option reverse a) (walk (visit_below_top a reverse_sequential) spent (range_down s.cursor s.reverse_cursor))
      (walk (visit_below_top a sequential_pieces) spent (range s.cursor s.reverse_cursor)) w
      (λ e. walk_keeps I (visit_below_top a reverse_sequential) spent (below_keeps reverse_sequential) (range_down s.cursor s.reverse_cursor) w z h)
      (λ e. walk_keeps I (visit_below_top a sequential_pieces) spent (below_keeps sequential_pieces) (range s.cursor s.reverse_cursor) w z h)

  -- the sequential phase
  pub pick_sequential_keeps : (w : PickState) → spent w ≡ false → I w → I (pick_sequential a w)
  unfolding pick_sequential
  pick_sequential_keeps w z h =
      let is = leading_top w.picker (list_of w.picker.listing) in
      let v = walk (visit a prio_sequential_pieces) spent is w in
      let g = walk_keeps I (visit a prio_sequential_pieces) spent (visit_keeps prio_sequential_pieces) is w z h in
      unless_keeps I (spent v) (pick_range a) v g (λ e. stretch_keeps v e g)

  -- ---- rarest first
  -- a piece of the list, counted before
  pub rare_keeps : (i : ℕ) (w : PickState) → spent w ≡ false → I (steps 1 rare_loops w) → I (rare_step a i w)
  unfolding rare_step
  rare_keeps i w z h = outside_keeps rarest_first_pieces i (steps 1 rare_loops w) (step_spent w 1 rare_loops z) h

  -- the same, backwards
  pub reverse_rare_keeps : (i : ℕ) (w : PickState) → spent w ≡ false → I (steps 1 reverse_rare_loops w) → I (reverse_rare_step a i w)
  unfolding reverse_rare_step
  reverse_rare_keeps i w z h = outside_keeps reverse_rarest_first i (steps 1 reverse_rare_loops w) (step_spent w 1 reverse_rare_loops z) h

  -- the list walked
  pub rare_walk_keeps : ((w : PickState) → I w → I (steps 1 rare_loops w)) → (w : PickState) → spent w ≡ false → I w
      → I (walk (rare_step a) spent (list_of w.picker.listing) w)
  rare_walk_keeps counts w z h = walk_keeps I (rare_step a) spent (λ i t d j. rare_keeps i t d (counts t j)) (list_of w.picker.listing) w z h

  -- the list walked backwards
  pub reverse_walk_keeps : ((w : PickState) → I w → I (steps 1 reverse_rare_loops w)) → (w : PickState) → spent w ≡ false → I w
      → I (walk (reverse_rare_step a) spent (reversed (list_of w.picker.listing)) w)
  reverse_walk_keeps counts w z h =
      walk_keeps I (reverse_rare_step a) spent (λ i t d j. reverse_rare_keeps i t d (counts t j)) (reversed (list_of w.picker.listing)) w z h

  extent_keeps : (e : ℕ) (x : ExtentWalk) → spent x.work ≡ false → I x.work → I (extent_step a e x).work
  unfolding extent_step
  extent_keeps e x z h =
      let s = x.work.picker in
      let n = nth 0 s.recent_extents e in
      walk_keeps I (visit_outside a extent_affinity) spent (outside_keeps extent_affinity) (range (extent_start s n) (extent_end s n)) x.work z h

  -- the extents, where forgetting one gives J
  pub pick_extents_keeps : (J : PickState → Type 0) → ((o : Option ℕ) (w : PickState) → I w → J (forget_extent o w)) → (w : PickState) → spent w ≡ false → I w → J (pick_extents a w)
  unfolding pick_extents
  pick_extents_keeps J forgets w z h =
      let x = walk (extent_step a) (λ y. spent y.work) (from 0 (len w.picker.recent_extents)) (record { work = w; finished = none }) in
      forgets x.finished x.work
      (walk_keeps (λ y. I y.work) (extent_step a) (λ y. spent y.work) extent_keeps (from 0 (len w.picker.recent_extents)) (record { work = w; finished = none }) z h)

  -- ---- random
  skip_keeps : ((w : PickState) → I w → I (steps 1 rand_start_loops w)) → (start : ℕ) (x : RandomWalk) → spent x.work ≡ false → I x.work
      → (spent (skip a start x).work ≡ false) × I (skip a start x).work
  unfolding skip skip_step
  skip_keeps counts start x z h =
      repeat_keeps (λ y. (spent y.work ≡ false) × I y.work) (skip_step start) (skip_done a)
      (λ y e g. (step_spent y.work 1 rand_start_loops g.0, counts y.work g.1))
      (pieces_in x.work.picker) (record { work = x.work; place = x.place; back = false; seen = x.seen; over = x.over }) (z, h)

  -- a visit in the random walk
  pub random_visit_keeps : (start : ℕ) (x : RandomWalk) → spent x.work ≡ false → I x.work → I (random_visit a start x).work
  unfolding random_visit random_span random_piece arrive
  random_visit_keeps start x z h =
      let w = x.work in
      let i = x.place in
      branch_arms (λ y. I y.work) (contiguous_above 1 w.contiguous && is_open (piece_at w.picker i).state) (random_span a start)
      (random_piece a start) x
      (λ e. k.span i w z h)
      (λ e. k.piece i (flagged random_pieces w) (flag_spent w random_pieces z) (k.flags random_pieces w h))

  lap_keeps : ((w : PickState) → I w → I (steps 1 rand_start_loops w)) → (start : ℕ) (x : RandomWalk) → walk_over x ≡ false → I x.work → I (lap_step a start x).work
  unfolding lap_step lap_from walk_over ended marked
  lap_keeps counts start x o h =
      let y = skip a start x in
      let g = skip_keeps counts start x (or_no_right x.over (spent x.work) o) h in
      branch_arms (λ v. I v.work) (lap_ends a y) ended (λ v. random_visit a start (marked v)) y (λ e. g.1)
      (λ e. random_visit_keeps start (marked y) g.0 g.1)

  -- the random walk
  pub ring_keeps : ((w : PickState) → I w → I (steps 1 rand_start_loops w)) → (start : ℕ) (w : PickState) → I w → I (ring a start w)
  unfolding ring
  ring_keeps counts start w h =
      repeat_keeps (λ y. I y.work) (lap_step a start) walk_over (lap_keeps counts start) ring_fuel
      (record { work = w; place = start; back = false; seen = trace w; over = false }) h

-- ---- rarest first: a forgotten extent leads from I to J, the list walked from J to Q, and walked backwards from I to Q
module _ (a : PickRequest) (ok : DownloadingPiece → Bool) (I J Q : PickState → Type 0) (k : Kept a ok I)
    (into : (w : PickState) → I w → J w) (out : (w : PickState) → J w → Q w) (forgets : (o : Option ℕ) (w : PickState) → I w → J (forget_extent o w))
    (ups : (w : PickState) → spent w ≡ false → J w → Q (walk (rare_step a) spent (list_of w.picker.listing) w))
    (downs : (w : PickState) → spent w ≡ false → I w → Q (walk (reverse_rare_step a) spent (reversed (list_of w.picker.listing)) w)) where
  forward_ends : (w : PickState) → spent w ≡ false → I w → Q (pick_forward a w)
  unfolding pick_forward
  forward_ends w z h =
      let v = when (option piece_extent_affinity a) (pick_extents a) w in
      let g = when_keeps J (option piece_extent_affinity a) (pick_extents a) w (into w h) (λ e. pick_extents_keeps a ok I k J forgets w z h) in
      unless_keeps Q (spent v) (λ u. walk (rare_step a) spent (list_of u.picker.listing) u) v (out v g) (λ e. ups v e g)

  rarest_ends : (w : PickState) → spent w ≡ false → I w → Q (pick_rarest a w)
  unfolding pick_rarest
  rarest_ends w z h =
      branch_arms Q (option reverse a) (walk (reverse_rare_step a) spent (reversed (list_of w.picker.listing))) (pick_forward a) w
      (λ e. downs w z h) (λ e. forward_ends w z h)

  -- sequential and rarest, from a refreshed list on
  pub pick_listed_ends : (ds : List ℕ) (w : PickState) → spent w ≡ false → I (with_list_updated ds w) → Q (pick_listed ds a w)
  unfolding pick_listed
  pick_listed_ends ds w z h =
      let u = with_list_updated ds w in
      let v = when (option sequential a) (pick_sequential a) u in
      let g = when_keeps I (option sequential a) (pick_sequential a) u h (λ e. pick_sequential_keeps a ok I k u (refreshed_spent w ds z) h) in
      unless_keeps Q (spent v) (pick_rarest a) v (out v (into v g)) (λ e. rarest_ends v e g)

-- the same, where the walks over the list keep J
module _ (a : PickRequest) (ok : DownloadingPiece → Bool) (I J : PickState → Type 0) (k : Kept a ok I) (l : Kept a ok J)
    (into : (w : PickState) → I w → J w) (forgets : (o : Option ℕ) (w : PickState) → I w → J (forget_extent o w)) where
  pub pick_listed_keeps : ((w : PickState) → J w → J (steps 1 rare_loops w)) → ((w : PickState) → J w → J (steps 1 reverse_rare_loops w))
      → (ds : List ℕ) (w : PickState) → spent w ≡ false → I (with_list_updated ds w) → J (pick_listed ds a w)
  pick_listed_keeps counts downs ds w z h =
      pick_listed_ends a ok I J J k into (λ v g. g) forgets (rare_walk_keeps a ok J l counts) (λ v e g. reverse_walk_keeps a ok J l downs v e (into v g)) ds w z h

-- ---- end game
-- I is known of the tries that are left. A try counts and draws; one that finds a block gives Q, and so does the end
module _ (I : ℕ → PickState → Type 0) (Q : PickState → Type 0)
    (tries : (n : ℕ) (w : PickState) → I (suc n) w → I n (with_picker w.picker (suc w.used) (steps 1 busy_loops w)))
    (finds : (n : ℕ) (w : PickState) (i j : ℕ) → I n w
    → Q (flagged end_game (with_picker w.picker (suc w.used) (with_out w.left w.contiguous (w.out ++ (piece_block i j ∷ [])) w))))
    (ends : (n : ℕ) (w : PickState) → I n w → Q w) where
  Trying : ℕ → EndGame → Type 0
  Trying n x = (x.found ≡ false → I n x.work) × Q x.work

  busy_keeps : (ds : List ℕ) (i : ℕ) (d : DownloadingPiece) (js : List ℕ) (n : ℕ) (x : EndGame) → I n x.work → Trying n (end_game_try ds i d js x)
  unfolding Trying end_game_try
  busy_keeps ds i d [] n x h = ((λ e. h), ends n x.work h)
  busy_keeps ds i d (j ∷ js) n x h =
      ((λ e. absurd (true≢false e)), finds n x.work d.piece (nth 0 (j ∷ js) (draw ds x.work.used (len js))) h)

  -- the end game leads from I to Q
  pub pick_end_game_keeps : (ds : List ℕ) (a : PickRequest) (w : PickState) → I max_end_game_pieces w → Q (pick_end_game ds a w)
  unfolding pick_end_game end_game_step end_game_done Trying
  pick_end_game_keeps ds a w h =
      repeat_counts Trying (λ x. Q x.work) (end_game_step ds a) end_game_done
      (λ n x e g.
      let v = x.work in
      let i = draw ds v.used (len x.pieces - 1) in
      let d = nth no_partial x.pieces i in
      busy_keeps ds i d (busy_blocks a d) n (record { work = with_picker v.picker (suc v.used) (steps 1 busy_loops v); pieces = x.pieces; found = false })
      (tries n v (g.0 (or_no_left x.found (eqb (len x.pieces) 0) e))))
      (λ n x g. g.1) max_end_game_pieces (record { work = w; pieces = full_partials a w.picker; found = false }) ((λ e. h), ends max_end_game_pieces w h)

-- ---- the pick
-- what the main walk starts from
unfoldable pub before_main : PickRequest → PickState → PickState
before_main a w = let p = pick_partials a w in unless (spent p) (pick_suggested a) p

-- partials lead to H, suggestions from H to G, the main walk from G to J, backup blocks and end game from J to Q
pub phases_ends : (ds : List ℕ) (a : PickRequest) (H G J Q : PickState → Type 0)
    → ((w : PickState) → H w → G w) → ((w : PickState) → spent w ≡ false → H w → G (pick_suggested a w))
    → ((w : PickState) → G w → J w) → ((w : PickState) → spent w ≡ false → G w → J (pick_main ds a w))
    → ((w : PickState) → J w → Q w) → ((w : PickState) → spent w ≡ false → J w → Q (pick_rest ds a w))
    → (w : PickState) → H (pick_partials a w) → Q (phases ds a w)
unfolding phases
phases_ends ds a H G J Q to_g suggested to_j main to_q rest w h =
    let p = pick_partials a w in
    let g = unless (spent p) (pick_suggested a) p in
    let m = unless (spent g) (pick_main ds a) g in
    let k = unless_keeps G (spent p) (pick_suggested a) p (to_g p h) (λ e. suggested p e h) in
    let l = unless_keeps J (spent g) (pick_main ds a) g (to_j g k) (λ e. main g e k) in
    unless_keeps Q (spent m) (pick_rest ds a) m (to_q m l) (λ e. rest m e l)

module _ (ds : List ℕ) (a : PickRequest) (ok : DownloadingPiece → Bool) (H J Q : PickState → Type 0) (k : Kept a ok H)
    (counts : (n : ℕ) (w : PickState) → H w → H (steps n partial_loops w)) (suggests : (w : PickState) → H w → H (steps 1 suggest_loops w)) where
  -- partials and suggestions keep H
  pub before_main_keeps : (w : PickState) → enough_aside w ≡ false → H w → H (before_main a w)
  unfolding before_main
  before_main_keeps w d h =
      let p = pick_partials a w in
      let g = pick_partials_keeps a ok H k w d h (counts (len (in_queue Downloading w.picker)) w h) in
      unless_keeps H (spent p) (pick_suggested a) p g (λ e. pick_suggested_keeps a ok H k suggests p e g)

  -- the main walk leads from H to J, backup blocks and end game from J to Q
  pub phases_keeps : ((w : PickState) → H w → J w) → ((w : PickState) → spent w ≡ false → H w → J (pick_main ds a w))
      → ((w : PickState) → J w → Q w) → ((w : PickState) → spent w ≡ false → J w → Q (pick_rest ds a w))
      → (w : PickState) → enough_aside w ≡ false → H w → Q (phases ds a w)
  phases_keeps into main out rest w d h =
      phases_ends ds a H H J Q (λ v g. g) (pick_suggested_keeps a ok H k suggests) into main out rest w
      (pick_partials_keeps a ok H k w d h (counts (len (in_queue Downloading w.picker)) w h))

-- ---- how a pick begins
module _ (s : Picker) (a : PickRequest) where
  -- with flags
  pub start_pick_keeps : (I : PickState → Type 0) → ((f : ℕ) (w : PickState) → I w → I (flagged f w)) → I (start_state s (effective_request s a)) → I (start_pick s a)
  unfolding start_pick
  start_pick_keeps I flags h =
      let v = when (ltb 0 (effective_request s a).contiguous) (flagged prefer_contiguous) (start_state s (effective_request s a)) in
      let g = when_keeps I (ltb 0 (effective_request s a).contiguous) (flagged prefer_contiguous) (start_state s (effective_request s a)) h (λ e. flags prefer_contiguous (start_state s (effective_request s a)) h) in
      when_keeps I (is_forced s a) (flagged partial_ratio) v g (λ e. flags partial_ratio v g)

  -- as many blocks wanted
  pub asked_wanted : (effective_request s a).wanted ≡ a.wanted
  unfolding effective_request forced_request
  asked_wanted = cond_arms (λ b. b.wanted ≡ a.wanted) (is_forced s a) (forced_request a) a (λ e. refl) (λ e. refl)

  -- a run no longer than the one asked for
  pub asked_run : (effective_request s a).contiguous ≤ a.contiguous
  unfolding effective_request forced_request
  asked_run = cond_arms (λ b. b.contiguous ≤ a.contiguous) (is_forced s a) (forced_request a) a (λ e. omega arith) (λ e. omega arith)

  -- the same suggestions
  pub asked_suggestions : (effective_request s a).suggestions ≡ a.suggestions
  unfolding effective_request forced_request
  asked_suggestions = cond_arms (λ b. b.suggestions ≡ a.suggestions) (is_forced s a) (forced_request a) a (λ e. refl) (λ e. refl)

  begin_more : 1 ≤ (effective_request s a).wanted → enough_aside (start_state s (effective_request s a)) ≡ false
  unfolding enough_aside start_state len
  begin_more h = lt-leb (effective_request s a).wanted 0 h

  -- at the start more blocks are wanted than are set aside
  pub start_more : 1 ≤ a.wanted → enough_aside (start_pick s a) ≡ false
  start_more h =
      start_pick_keeps (λ w. enough_aside w ≡ false) (λ f w g. flag_more w f g) (begin_more (rw asked_wanted h))
