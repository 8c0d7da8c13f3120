-- The phases of a pick one after another: a free block that can be taken is given, where blocks are wanted at the end. Assumes nothing.
use mathlib.Core.Path.{◌≡◌, refl, sym, ap, ap₂, ◌∙◌, subst}
use mathlib.Core.Logic.{◌⊎◌, inl, inr, ⊎_elim}
use Prim.Native.Nat.{ℕ, suc, ◌+◌, ◌-◌, ◌≤◌, ◌<◌}
use native.Mathlib.Nat.{mod-lt}
use native.Mathlib.Omega.{arith}
use mathlib.Core.Bool.{Bool, true, false, not, ◌&&◌, ◌||◌, true≢false}
use mathlib.Core.List.{List, [], ◌∷◌, ◌++◌}
use lib.Dec.{eqb, ltb, leb}
use borrow.Author.Tests.{eqb-true, lt-ltb}
use Rattle.types.specs.declared.queue.DownloadQueue.{DownloadQueue}
use Rattle.types.specs.declared.queue.DownloadQueue.TheVariants.{Downloading, Full, Finished as FinishedQueue, ZeroPrio, Open}
use Rattle.types.specs.declared.queue.DownloadQueue.TheVariants.{DownloadingReverse, FullReverse}
use Rattle.types.specs.Queue.{unreverse}
use Rattle.model.specs.Lists.{any, nth, member, unless, when}
use Rattle.model.specs.State.{Piece, Picker, no_piece, top_priority, same_queue, is_open, list_of, piece_at, pieces_in, blocks_in_piece}
use Rattle.model.specs.State.{payload_blocks_in_piece}
use Rattle.model.specs.Options.{rarest_first, on_parole, prioritize_partials, sequential, backup1, end_game, rand_start_loops, busy_loops}
use Rattle.model.specs.list.Order.{Draws, drawing, draw, unlisted, bucket, rank_of, rank, update_pieces}
use Rattle.model.specs.list.Listed.{ListingOk}
use Rattle.model.specs.change.Partials.{partial_of}
use Rattle.model.specs.pick.Blocks.{PickRequest, option, has_bit, PickState, spent, with_out, with_picker, flagged, steps, is_ignored}
use Rattle.model.specs.pick.Blocks.{is_piece_free, piece_block, append_blocks}
use Rattle.model.specs.pick.Pick.{in_range, pick_partials, pick_suggested, pick_sequential, pick_rarest, ring_fuel, ring, pick_random, pick_end_game}
use Rattle.model.specs.pick.Pick.{with_list_updated, pick_listed, pick_main, pick_rest, phases}
use Rattle.model.proofs.base.Phases.{branch_arms, unless_arms}
use Rattle.model.proofs.base.Truths.{and_left, and_right, by_test}
use Rattle.model.proofs.base.WalkLaws.{unless_keeps, when_keeps}
use Rattle.model.proofs.list.ListedLaws.{listed_member}
use Rattle.model.proofs.list.ListingLaws.{OnlyListing, update_pieces_only, update_pieces_listed}
use Rattle.model.proofs.pick.FrameLaws.{any_partial}
use Rattle.model.proofs.pick.PhaseLaws.{ring_keeps, pick_end_game_keeps}
use Rattle.agreement.proofs.complete.Giving.{Sure, spent_sure, flags_sure, steps_sure, picker_sure, sure_kept, Settled, none_left}
use Rattle.agreement.proofs.complete.Giving.{given, append_settled, given_front}
use Rattle.agreement.proofs.complete.Taking.{Way, from_new, from_partial}
use Rattle.agreement.proofs.complete.Waiting.{Waiting, Coming, sure, waits}
use Rattle.agreement.proofs.complete.Early.{partials_coming, suggested_coming}
use Rattle.agreement.proofs.complete.Walks.{rarest_sure, Placed, Due, sequential_due, sequential_gives, rarest_gives}
use Rattle.agreement.proofs.complete.Ring.{Round, ring_gives}

-- ---- a piece stands in the list
-- Open and Downloading pieces are neither Full nor Finished
busy_not : (q : DownloadQueue) → (is_open q ≡ true) ⊎ (same_queue (unreverse q) Downloading ≡ true)
    → (same_queue q Full || same_queue q FinishedQueue) ≡ false
unfolding is_open same_queue
busy_not Downloading h = refl
busy_not Full h = absurd (⊎_elim (λ e. true≢false (sym e)) (λ e. true≢false (sym e)) h)
busy_not FinishedQueue h = absurd (⊎_elim (λ e. true≢false (sym e)) (λ e. true≢false (sym e)) h)
busy_not ZeroPrio h = refl
busy_not Open h = refl
busy_not DownloadingReverse h = refl
busy_not FullReverse h = refl

not-false : (b : Bool) → not b ≡ true → b ≡ false
not-false true e = sym e
not-false false e = refl

-- a free piece in one of these states, that somebody has, has a bucket
pub free_ranked : (a : PickRequest) (s : Picker) (i : ℕ) → is_piece_free a s i ≡ true
    → (is_open (piece_at s i).state ≡ true) ⊎ (same_queue (unreverse (piece_at s i).state) Downloading ≡ true)
    → eqb ((piece_at s i).peer_count + s.seeds) 0 ≡ false → 0 < rank s i
unfolding is_piece_free rank bucket unlisted rank_of
free_ranked a s i f o e =
    let p = piece_at s i in
    let g = and_right (has_bit a i) (not p.flushed && not (eqb p.priority 0)) f in
    let x = not-false p.flushed (and_left (not p.flushed) (not (eqb p.priority 0)) g) in
    let y = not-false (eqb p.priority 0) (and_right (not p.flushed) (not (eqb p.priority 0)) g) in
    rw (y, x, e, busy_not p.state o) (omega arith)

way_state : (a : PickRequest) (i j : ℕ) (s : Picker) → Way a i j s
    → (is_open (piece_at s i).state ≡ true) ⊎ (same_queue (unreverse (piece_at s i).state) Downloading ≡ true)
way_state a i j s (from_new o l) = inl o
way_state a i j s (from_partial o q d e t) = inr q

-- ---- a refreshed list
module _ (a : PickRequest) (i j : ℕ) (s q : Picker) (o : OnlyListing s q) where
  piece_same : piece_at q i ≡ piece_at s i
  unfolding piece_at
  piece_same = ap (λ (ps : List Piece). nth no_piece ps i) o.pieces

  payload_same : payload_blocks_in_piece q i ≡ payload_blocks_in_piece s i
  unfolding payload_blocks_in_piece blocks_in_piece piece_at
  payload_same = rw (o.total_size, o.piece_size, o.pieces)

  partial_same : partial_of q i ≡ partial_of s i
  unfolding partial_of
  partial_same = rw o.partials

  way_same : Way a i j s → Way a i j q
  way_same (from_new e l) = from_new (ap (λ (p : Piece). is_open p.state) piece_same ∙ e) (omega (arith, payload_same))
  way_same (from_partial e k d f t) =
      from_partial (ap (λ (p : Piece). is_open p.state) piece_same ∙ e)
      (ap (λ (p : Piece). same_queue (unreverse p.state) Downloading) piece_same ∙ k) d
      (partial_same ∙ f) t

  free_same : is_piece_free a q i ≡ is_piece_free a s i
  unfolding is_piece_free
  free_same = ap (λ (p : Piece). has_bit a i && (not p.flushed && not (eqb p.priority 0))) piece_same

  range_same : in_range a q i ≡ in_range a s i
  unfolding in_range
  range_same = ap₂ (λ (m n : ℕ). option sequential a && (leb m i && ltb i n)) o.cursor o.reverse_cursor

module _ (draws : Draws) (s : Picker) (a : PickRequest) (i j : ℕ) (inside : i < pieces_in s) (free : is_piece_free a s i ≡ true)
    (way : Way a i j s) where
  -- up to the main walk the picker is s
  Begun : Picker → Type 0
  Begun q = q ≡ s

  -- ---- by the list
  module _ (ok : ListingOk s) (within : in_range a s i ≡ true → eqb (piece_at s i).priority top_priority ≡ false)
      (outside : in_range a s i ≡ false → eqb ((piece_at s i).peer_count + s.seeds) 0 ≡ false) where
    Ready : PickState → Type 0
    Ready w = Due a i j (in_range a s i) (eqb (piece_at s i).priority top_priority) w

    stands : (used : ℕ) → in_range a s i ≡ false → any (eqb i) (list_of (update_pieces draws (drawing used s)).picker.listing) ≡ true
    unfolding member drawing
    stands used e =
        listed_member (rank s) (pieces_in s) (list_of (update_pieces draws (drawing used s)).picker.listing)
        (update_pieces_listed draws (drawing used s) ok) i inside
        ∙ lt-ltb 0 (rank s i) (free_ranked a s i free (way_state a i j s way) (outside e))

    refreshed : (used : ℕ) → OnlyListing s (update_pieces draws (drawing used s)).picker
    unfolding drawing
    refreshed used = update_pieces_only draws (drawing used s)

    placed : (used : ℕ) → Placed a i (in_range a s i) (eqb (piece_at s i).priority top_priority) (update_pieces draws (drawing used s)).picker
    placed used =
        let q = (update_pieces draws (drawing used s)).picker in
        let o = refreshed used in
        record {
          free = free_same a i j s q o ∙ free;
          range = range_same a i j s q o;
          top = ap (λ (p : Piece). eqb p.priority top_priority) (piece_same a i j s q o);
          listed = stands used;
        }

    update_waits : (w : PickState) → Waiting a i j Begun w
        → Waiting a i j (Placed a i (in_range a s i) (eqb (piece_at s i).priority top_priority)) (with_list_updated draws w)
    unfolding with_list_updated with_picker Begun is_ignored
    update_waits w h =
        let q = (update_pieces draws (drawing w.used w.picker)).picker in
        let e : (update_pieces draws (drawing w.used s)).picker ≡ q = ap
        (λ (p : Picker). (update_pieces draws (drawing w.used p)).picker) (sym h.facts) in
        record {
          way = subst (Way a i j) e (way_same a i j s (update_pieces draws (drawing w.used s)).picker (refreshed w.used) way);
          facts = subst (Placed a i (in_range a s i) (eqb (piece_at s i).priority top_priority)) e (placed w.used);
          unmarked = h.unmarked;
          visits = subst (λ (p : Picker). (is_open (piece_at p i).state || not (option prioritize_partials a)) ≡ true) e
              (ap (λ (p : Piece). is_open p.state || not (option prioritize_partials a))
              (piece_same a i j s (update_pieces draws (drawing w.used s)).picker (refreshed w.used))
              ∙ subst (λ (p : Picker). (is_open (piece_at p i).state || not (option prioritize_partials a)) ≡ true) h.facts h.visits);
        }

    update_ready : (w : PickState) → Coming a i j Begun w → Ready (with_list_updated draws w)
    unfolding Ready Due with_list_updated
    update_ready w (sure h) =
        sure (picker_sure i j (update_pieces draws (drawing w.used w.picker)).picker
        (update_pieces draws (drawing w.used w.picker)).used w h)
    update_ready w (waits h) = waits (update_waits w h)

    -- in the range: the sequential walk comes to it
    in_range_lem : (w : PickState) → in_range a s i ≡ true → Ready w
        → Sure i j (unless (spent (when (option sequential a) (pick_sequential a) w)) (pick_rarest a)
        (when (option sequential a) (pick_sequential a) w))
    unfolding Ready in_range when
    in_range_lem w e h =
        let v = when (option sequential a) (pick_sequential a) w in
        let q = and_left (option sequential a) (leb s.cursor i && ltb i s.reverse_cursor) e in
        let g : Sure i j v = rw q (sequential_gives a i j (in_range a s i) (eqb (piece_at s i).priority top_priority) e (within e) w h) in
        unless_keeps (Sure i j) (spent v) (pick_rarest a) v g (λ z. rarest_sure a i j v z g)

    -- outside it: the list has it
    out_range : (w : PickState) → in_range a s i ≡ false → Ready w
        → Sure i j (unless (spent (when (option sequential a) (pick_sequential a) w)) (pick_rarest a)
        (when (option sequential a) (pick_sequential a) w))
    unfolding Ready
    out_range w e h =
        let v = when (option sequential a) (pick_sequential a) w in
        let g = when_keeps Ready (option sequential a) (pick_sequential a) w h
        (λ q. sequential_due a i j (in_range a s i) (eqb (piece_at s i).priority top_priority) w h) in
        unless_arms (Sure i j) (spent v) (pick_rarest a) v
        (λ z. rarest_gives a i j (in_range a s i) (eqb (piece_at s i).priority top_priority) e v g) (λ z. spent_sure i j v z)

    listed_gives : (w : PickState) → Coming a i j Begun w → Sure i j (pick_listed draws a w)
    unfolding pick_listed
    listed_gives w h =
        let u = with_list_updated draws w in
        by_test (in_range a s i) (λ e. in_range_lem u e (update_ready w h)) (λ e. out_range u e (update_ready w h))

  -- ---- at random
  random_coming : (start n : ℕ) (l : start < pieces_in s) (w : PickState) → Coming a i j Begun w
      → Coming a i j (Round a i j (pieces_in s) start l inside) (with_picker w.picker n w)
  unfolding with_picker is_ignored Begun
  random_coming start n l w (sure h) = sure (picker_sure i j w.picker n w h)
  random_coming start n l w (waits h) = waits (record {
    way = h.way;
    facts = record { free = subst (λ (p : Picker). is_piece_free a p i ≡ true) (sym h.facts) free; many = ap pieces_in h.facts };
    unmarked = h.unmarked;
    visits = h.visits;
  })

  drawn_in : (used : ℕ) → draw draws used (pieces_in s - 1) < pieces_in s
  unfolding draw
  drawn_in used = let l = mod-lt (nth 0 draws used) {m = suc (pieces_in s - 1)} (omega arith) in omega arith

  random_from : (start : ℕ) → start < pieces_in s → pieces_in s ≤ ring_fuel → (n : ℕ) (w : PickState) → Coming a i j Begun w
      → Sure i j (ring a start (with_picker w.picker n w))
  random_from start l few n w h =
      ring_gives a i j (pieces_in s) start l inside (with_picker w.picker n w) few (random_coming start n l w h)

  -- the picker is still s, or the block is sure
  random_gives : pieces_in s ≤ ring_fuel → (w : PickState) → Coming a i j Begun w → Sure i j (pick_random draws a w)
  unfolding pick_random Begun
  random_gives few w (sure h) =
      ring_keeps a any_partial (Sure i j) (sure_kept i j a) (steps_sure i j 1 rand_start_loops)
      (draw draws w.used (pieces_in w.picker - 1))
      (with_picker w.picker (suc w.used) w) (picker_sure i j w.picker (suc w.used) w h)
  random_gives few w (waits h) =
      let e : draw draws w.used (pieces_in s - 1) ≡ draw draws w.used (pieces_in w.picker - 1) =
      ap (λ (p : Picker). draw draws w.used (pieces_in p - 1)) (sym h.facts) in
      subst (λ k. Sure i j (ring a k (with_picker w.picker (suc w.used) w))) e
      (random_from (draw draws w.used (pieces_in s - 1)) (drawn_in w.used) few (suc w.used) w (waits h))

  -- ---- the main walk
  module _ (few : pieces_in s ≤ ring_fuel) (ok : ListingOk s)
      (within : (option sequential a || option rarest_first a) ≡ true → in_range a s i ≡ true → eqb
      (piece_at s i).priority top_priority ≡ false)
      (outside : (option sequential a || option rarest_first a) ≡ true → in_range a s i ≡ false → eqb
      ((piece_at s i).peer_count + s.seeds) 0 ≡ false) where
    main_gives : (w : PickState) → Coming a i j Begun w → Sure i j (pick_main draws a w)
    unfolding pick_main
    main_gives w h =
        branch_arms (Sure i j) (option sequential a || option rarest_first a) (pick_listed draws a) (pick_random draws a) w
        (λ e. listed_gives ok (within e) (outside e) w h) (λ e. random_gives few w h)

    -- ---- the rest
    settled_try : (w : PickState) → Settled i j w → Settled i j (with_picker w.picker (suc w.used) (steps 1 busy_loops w))
    unfolding with_picker steps
    settled_try w (none_left h) = none_left h
    settled_try w (given h) = given h

    settled_find : (w : PickState) (k m : ℕ) → Settled i j w
        → Settled i j (flagged end_game
        (with_picker w.picker (suc w.used) (with_out w.left w.contiguous (w.out ++ (piece_block k m ∷ [])) w)))
    unfolding flagged with_picker with_out
    settled_find w k m (none_left h) = none_left h
    settled_find w k m (given h) = given (given_front i j w.out (piece_block k m ∷ []) h)

    rest_settles : (w : PickState) → Sure i j w → Settled i j (pick_rest draws a w)
    unfolding pick_rest
    rest_settles w h =
        let v = append_blocks (flagged backup1 w) in
        let g = append_settled i j (flagged backup1 w) (flags_sure i j backup1 w h) in
        unless_keeps (Settled i j) (spent v || option on_parole a) (pick_end_game draws a) v g
        (λ e. pick_end_game_keeps (λ n u. Settled i j u) (Settled i j) (λ n u x. settled_try u x) (λ n u k m x. settled_find u k m x)
        (λ n u x. x) draws a v g)

    spent_settled : (w : PickState) → spent w ≡ true → Settled i j w
    unfolding spent
    spent_settled w e = none_left (eqb-true w.left 0 e)

    -- ---- all phases, from work with the picker s in which the piece is not ignored
    pub phases_settle : (w : PickState) → w.picker ≡ s → is_ignored i w ≡ false → Settled i j (phases draws a w)
    unfolding phases Begun
    phases_settle w e m =
        let w₁ = pick_partials a w in
        let w₂ = unless (spent w₁) (pick_suggested a) w₁ in
        let w₃ = unless (spent w₂) (pick_main draws a) w₂ in
        let h₁ = partials_coming a i j Begun w (subst (λ (p : Picker). is_piece_free a p i ≡ true) (sym e) free)
        (subst (Way a i j) (sym e) way) e m in
        let h₂ = unless_keeps (Coming a i j Begun) (spent w₁) (pick_suggested a) w₁ h₁ (λ z. suggested_coming a i j Begun w₁ h₁) in
        let h₃ = unless_arms (Sure i j) (spent w₂) (pick_main draws a) w₂ (λ z. main_gives w₂ h₂) (λ z. spent_sure i j w₂ z) in
        unless_arms (Settled i j) (spent w₃) (pick_rest draws a) w₃ (λ z. rest_settles w₃ h₃) (λ z. spent_settled w₃ z)
