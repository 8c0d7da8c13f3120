-- The walks over pieces, sequential and rarest first: each visits every piece of its list, so that a piece that waits gets its visit.
-- Assumes nothing.
use mathlib.Core.Path.{◌≡◌, ◌∙◌, subst}
use Prim.Native.Nat.{ℕ, ◌≤◌, ◌<◌}
use mathlib.Core.Bool.{Bool, true, false, ◌&&◌}
use mathlib.Core.List.{List}
use mathlib.Core.Option.{Option, none, some}
use lib.Dec.{eqb, ltb, leb}
use borrow.Author.Tests.{eqb-true, ltb-true, leb-true}
use Rattle.model.specs.Lists.{any, from, range, range_down, nth, len, remove_nth, reversed, unless, when, walk}
use Rattle.model.specs.State.{Picker, top_priority, list_of, with_recent_extents, piece_at, blocks_in_piece, payload_blocks_in_piece, extent_start}
use Rattle.model.specs.State.{extent_end}
use Rattle.model.specs.Options.{reverse, sequential, piece_extent_affinity, rarest_first_pieces, reverse_rarest_first, prio_sequential_pieces}
use Rattle.model.specs.Options.{sequential_pieces, reverse_sequential, extent_affinity, reverse_rare_loops, rare_loops}
use Rattle.model.specs.change.Partials.{partial_of}
use Rattle.model.specs.pick.Blocks.{PickRequest, option, PickState, spent, with_picker, flagged, steps, is_ignored, is_piece_free, add_blocks}
use Rattle.model.specs.pick.Pick.{visit, leading_top, visit_below_top, pick_range, pick_sequential, in_range, visit_outside, rare_step}
use Rattle.model.specs.pick.Pick.{reverse_rare_step, ExtentWalk, extent_step, forget_extent, pick_extents, pick_forward, pick_rarest}
use Rattle.model.proofs.base.Phases.{branch_arms, unless_arms}
use Rattle.model.proofs.base.Truths.{and_left, and_right}
use Rattle.model.proofs.base.WalkLaws.{unless_keeps, when_keeps, walk_until_keeps}
use Rattle.model.proofs.pick.FrameLaws.{any_partial}
use Rattle.model.proofs.pick.PhaseLaws.{pick_extents_keeps, rare_walk_keeps, reverse_walk_keeps}
use Rattle.agreement.proofs.complete.Reaching.{walk_reaches}
use Rattle.agreement.proofs.complete.Giving.{Sure, spent_sure, flags_sure, steps_sure, picker_sure, blocks_sure, sure_kept}
use Rattle.agreement.proofs.complete.Standing.{stands_range, stands_down, any-reversed}
use Rattle.agreement.proofs.complete.Taking.{Way, from_new, from_partial, when_made, unless_made}
use Rattle.agreement.proofs.complete.Quiet.{quiet_self, quiet_flag}
use Rattle.agreement.proofs.complete.Waiting.{Waiting, Coming, sure, waits, waiting_quiet, blocks_coming, blocks_reach}
use Rattle.agreement.proofs.complete.Early.{flag_coming, steps_coming}

-- ---- what is sure stays so
module _ (a : PickRequest) (i j : ℕ) where
  forget_sure : (place : Option ℕ) (w : PickState) → Sure i j w → Sure i j (forget_extent place w)
  unfolding forget_extent
  forget_sure none w h = h
  forget_sure (some k) w h = picker_sure i j (with_recent_extents (remove_nth k w.picker.recent_extents) w.picker) w.used w h

  forward_sure : (w : PickState) → spent w ≡ false → Sure i j w → Sure i j (pick_forward a w)
  unfolding pick_forward
  forward_sure w z h =
      let k = sure_kept i j a in
      let v = when (option piece_extent_affinity a) (pick_extents a) w in
      let g = when_keeps (Sure i j) (option piece_extent_affinity a) (pick_extents a) w h
      (λ o. pick_extents_keeps a any_partial (Sure i j) k (Sure i j) forget_sure w z h) in
      unless_keeps (Sure i j) (spent v) (λ u. walk (rare_step a) spent (list_of u.picker.listing) u) v g
      (λ e. rare_walk_keeps a any_partial (Sure i j) k (steps_sure i j 1 rare_loops) v e g)

  -- in the rarest phase
  pub rarest_sure : (w : PickState) → spent w ≡ false → Sure i j w → Sure i j (pick_rarest a w)
  unfolding pick_rarest
  rarest_sure w z h =
      branch_arms (Sure i j) (option reverse a) (walk (reverse_rare_step a) spent (reversed (list_of w.picker.listing))) (pick_forward a) w
      (λ o. reverse_walk_keeps a any_partial (Sure i j) (sure_kept i j a) (steps_sure i j 1 reverse_rare_loops) w z h) (λ o. forward_sure w z h)

-- ---- what is to be known of the picker
-- piece i is free, `r` says whether it lies in the range of a sequential pick, and `p` whether it has the top priority; outside the range
-- it stands in the list
pub record Placed (a : PickRequest) (i : ℕ) (r p : Bool) (s : Picker) : Type 0 where
  pub free : is_piece_free a s i ≡ true
  pub range : in_range a s i ≡ r
  pub top : eqb (piece_at s i).priority top_priority ≡ p
  pub listed : r ≡ false → any (eqb i) (list_of s.listing) ≡ true

module _ (a : PickRequest) (i j : ℕ) (r p : Bool) where
  -- what a piece's walk starts from
  unfoldable pub Due : PickState → Type 0
  Due w = Coming a i j (Placed a i r p) w

  -- ---- a visit
  visit_sure : (f k : ℕ) (w : PickState) → Sure i j w → Sure i j (visit a f k w)
  unfolding visit
  visit_sure f k w h =
      when_keeps (Sure i j) (is_piece_free a w.picker k) (λ v. add_blocks a k (flagged f v)) w h
      (λ e. blocks_sure i j a k (flagged f w) (flags_sure i j f w h))

  visit_due : (f k : ℕ) (w : PickState) → Due w → Due (visit a f k w)
  unfolding visit Due
  visit_due f k w h =
      when_keeps Due (is_piece_free a w.picker k) (λ v. add_blocks a k (flagged f v)) w h
      (λ e. blocks_coming a i j (Placed a i r p) k (flagged f w) (flag_coming a i j (Placed a i r p) f w h))

  visit_reaches : (f : ℕ) (w : PickState) → Waiting a i j (Placed a i r p) w → Sure i j (visit a f i w)
  unfolding visit
  visit_reaches f w h =
      when_made (Sure i j) (is_piece_free a w.picker i) (λ v. add_blocks a i (flagged f v)) w h.facts.free
      (blocks_reach a i j (Placed a i r p) (flagged f w)
      (waiting_quiet a i j (Placed a i r p) w (flagged f w) (quiet_flag w f w (quiet_self w)) h))

  -- ---- a visit that may be left out
  guarded_sure : (b : Bool) (f k : ℕ) (w : PickState) → Sure i j w → Sure i j (unless b (visit a f k) w)
  guarded_sure b f k w h = unless_keeps (Sure i j) b (visit a f k) w h (λ e. visit_sure f k w h)

  guarded_due : (b : Bool) (f k : ℕ) (w : PickState) → Due w → Due (unless b (visit a f k) w)
  guarded_due b f k w h = unless_keeps Due b (visit a f k) w h (λ e. visit_due f k w h)

  -- where it is not left out for the piece
  guarded_reaches : (b : Bool) (f : ℕ) (w : PickState) → (Placed a i r p w.picker → b ≡ false) → Due w
      → Sure i j (unless b (visit a f i) w)
  unfolding Due
  guarded_reaches b f w g (sure h) = guarded_sure b f i w h
  guarded_reaches b f w g (waits h) = unless_made (Sure i j) b (visit a f i) w (g h.facts) (visit_reaches f w h)

  -- ---- walks of such visits
  module _ (step : ℕ → PickState → PickState) (due : (k : ℕ) (w : PickState) → Due w → Due (step k w))
      (stays : (k : ℕ) (w : PickState) → Sure i j w → Sure i j (step k w)) where
    walk_sure : (ks : List ℕ) (w : PickState) → Sure i j w → Sure i j (walk step spent ks w)
    unfolding walk
    walk_sure ks w h = walk_until_keeps (Sure i j) step (λ k v. spent (step k v)) stays ks w h

    walk_due : (ks : List ℕ) (w : PickState) → Due w → Due (walk step spent ks w)
    unfolding walk
    walk_due ks w h = walk_until_keeps Due step (λ k v. spent (step k v)) due ks w h

    -- a walk over a list that has the piece
    walk_gives : ((w : PickState) → Due w → Sure i j (step i w)) → (ks : List ℕ) (w : PickState) → (Placed a i r p w.picker
        → any (eqb i) ks ≡ true)
        → Due w → Sure i j (walk step spent ks w)
    unfolding Due
    walk_gives reach ks w m (sure h) = walk_sure ks w h
    walk_gives reach ks w m (waits h) =
        walk_reaches Due (Sure i j) (eqb i) step due stays (λ k v e g. subst (λ n. Sure i j (step n v)) (eqb-true i k e) (reach v g)) spent
        (λ v e g. spent_sure i j v e) ks w (m h.facts) (waits h)

  -- ---- sequential
  below_due : (f k : ℕ) (w : PickState) → Due w → Due (visit_below_top a f k w)
  unfolding visit_below_top
  below_due f k w h = guarded_due (eqb (piece_at w.picker k).priority top_priority) f k w h

  below_sure : (f k : ℕ) (w : PickState) → Sure i j w → Sure i j (visit_below_top a f k w)
  unfolding visit_below_top
  below_sure f k w h = guarded_sure (eqb (piece_at w.picker k).priority top_priority) f k w h

  below_reaches : p ≡ false → (f : ℕ) (w : PickState) → Due w → Sure i j (visit_below_top a f i w)
  unfolding visit_below_top
  below_reaches e f w h = guarded_reaches (eqb (piece_at w.picker i).priority top_priority) f w (λ g. g.top ∙ e) h

  range_due : (w : PickState) → Due w → Due (pick_range a w)
  unfolding pick_range
  range_due w h =
      let s = w.picker in
      branch_arms Due (option reverse a) (walk (visit_below_top a reverse_sequential) spent (range_down s.cursor s.reverse_cursor))
      (walk (visit_below_top a sequential_pieces) spent (range s.cursor s.reverse_cursor)) w
      (λ e. walk_due (visit_below_top a reverse_sequential) (below_due reverse_sequential) (below_sure reverse_sequential)
      (range_down s.cursor s.reverse_cursor) w h)
      (λ e. walk_due (visit_below_top a sequential_pieces) (below_due sequential_pieces) (below_sure sequential_pieces)
      (range s.cursor s.reverse_cursor) w h)

  -- a piece in the range lies between the cursors
  between : r ≡ true → (s : Picker) → Placed a i r p s → (s.cursor ≤ i) × (i < s.reverse_cursor)
  unfolding in_range
  between e s h =
      let g = and_right (option sequential a) (leb s.cursor i && ltb i s.reverse_cursor) (h.range ∙ e) in (
        leb-true s.cursor i (and_left (leb s.cursor i) (ltb i s.reverse_cursor) g),
        ltb-true i s.reverse_cursor
            (and_right (leb s.cursor i) (ltb i s.reverse_cursor) g),
      )

  range_gives : r ≡ true → p ≡ false → (w : PickState) → Due w → Sure i j (pick_range a w)
  unfolding pick_range
  range_gives e q w h =
      let s = w.picker in
      branch_arms (Sure i j) (option reverse a) (walk (visit_below_top a reverse_sequential) spent (range_down s.cursor s.reverse_cursor))
      (walk (visit_below_top a sequential_pieces) spent (range s.cursor s.reverse_cursor)) w
      (λ o. walk_gives (visit_below_top a reverse_sequential) (below_due reverse_sequential) (below_sure reverse_sequential)
      (below_reaches q reverse_sequential)
      (range_down s.cursor s.reverse_cursor) w
      (λ g. let b = between e s g in stands_down i s.cursor s.reverse_cursor b.0 b.1) h)
      (λ o. walk_gives (visit_below_top a sequential_pieces) (below_due sequential_pieces) (below_sure sequential_pieces)
      (below_reaches q sequential_pieces)
      (range s.cursor s.reverse_cursor) w
      (λ g. let b = between e s g in stands_range i s.cursor s.reverse_cursor b.0 b.1) h)

  top_due : (w : PickState) → Due w
      → Due (walk (visit a prio_sequential_pieces) spent (leading_top w.picker (list_of w.picker.listing)) w)
  top_due w h =
      walk_due (visit a prio_sequential_pieces) (visit_due prio_sequential_pieces) (visit_sure prio_sequential_pieces)
      (leading_top w.picker (list_of w.picker.listing)) w h

  -- the sequential phase
  pub sequential_due : (w : PickState) → Due w → Due (pick_sequential a w)
  unfolding pick_sequential
  sequential_due w h =
      let v = walk (visit a prio_sequential_pieces) spent (leading_top w.picker (list_of w.picker.listing)) w in
      unless_keeps Due (spent v) (pick_range a) v (top_due w h) (λ e. range_due v (top_due w h))

  pub sequential_gives : r ≡ true → p ≡ false → (w : PickState) → Due w → Sure i j (pick_sequential a w)
  unfolding pick_sequential
  sequential_gives e q w h =
      let v = walk (visit a prio_sequential_pieces) spent (leading_top w.picker (list_of w.picker.listing)) w in
      unless_arms (Sure i j) (spent v) (pick_range a) v (λ z. range_gives e q v (top_due w h)) (λ z. spent_sure i j v z)

  -- ---- rarest first
  outside_due : (f k : ℕ) (w : PickState) → Due w → Due (visit_outside a f k w)
  unfolding visit_outside
  outside_due f k w h = guarded_due (in_range a w.picker k) f k w h

  outside_sure : (f k : ℕ) (w : PickState) → Sure i j w → Sure i j (visit_outside a f k w)
  unfolding visit_outside
  outside_sure f k w h = guarded_sure (in_range a w.picker k) f k w h

  outside_reaches : r ≡ false → (f : ℕ) (w : PickState) → Due w → Sure i j (visit_outside a f i w)
  unfolding visit_outside
  outside_reaches e f w h = guarded_reaches (in_range a w.picker i) f w (λ g. g.range ∙ e) h

  steps_due : (n c : ℕ) (w : PickState) → Due w → Due (steps n c w)
  unfolding Due
  steps_due n c w h = steps_coming a i j (Placed a i r p) n c w h

  rare_due : (k : ℕ) (w : PickState) → Due w → Due (rare_step a k w)
  unfolding rare_step
  rare_due k w h = outside_due rarest_first_pieces k (steps 1 rare_loops w) (steps_due 1 rare_loops w h)

  rare_sure : (k : ℕ) (w : PickState) → Sure i j w → Sure i j (rare_step a k w)
  unfolding rare_step
  rare_sure k w h = outside_sure rarest_first_pieces k (steps 1 rare_loops w) (steps_sure i j 1 rare_loops w h)

  rare_reaches : r ≡ false → (w : PickState) → Due w → Sure i j (rare_step a i w)
  unfolding rare_step
  rare_reaches e w h = outside_reaches e rarest_first_pieces (steps 1 rare_loops w) (steps_due 1 rare_loops w h)

  reverse_due : (k : ℕ) (w : PickState) → Due w → Due (reverse_rare_step a k w)
  unfolding reverse_rare_step
  reverse_due k w h = outside_due reverse_rarest_first k (steps 1 reverse_rare_loops w) (steps_due 1 reverse_rare_loops w h)

  reverse_sure : (k : ℕ) (w : PickState) → Sure i j w → Sure i j (reverse_rare_step a k w)
  unfolding reverse_rare_step
  reverse_sure k w h = outside_sure reverse_rarest_first k (steps 1 reverse_rare_loops w) (steps_sure i j 1 reverse_rare_loops w h)

  reverse_reaches : r ≡ false → (w : PickState) → Due w → Sure i j (reverse_rare_step a i w)
  unfolding reverse_rare_step
  reverse_reaches e w h = outside_reaches e reverse_rarest_first (steps 1 reverse_rare_loops w) (steps_due 1 reverse_rare_loops w h)

  -- ---- recent extents
  -- one forgotten
  placed_extents : (es : List ℕ) (s : Picker) → Placed a i r p s → Placed a i r p (with_recent_extents es s)
  unfolding with_recent_extents is_piece_free in_range piece_at
  placed_extents es s h = record { free = h.free; range = h.range; top = h.top; listed = h.listed }

  way_extents : (es : List ℕ) (s : Picker) → Way a i j s → Way a i j (with_recent_extents es s)
  unfolding with_recent_extents piece_at payload_blocks_in_piece blocks_in_piece partial_of
  way_extents es s (from_new o l) = from_new o l
  way_extents es s (from_partial o q d e t) = from_partial o q d e t

  waiting_forgets : (es : List ℕ) (n : ℕ) (w : PickState) → Waiting a i j (Placed a i r p) w
      → Waiting a i j (Placed a i r p) (with_picker (with_recent_extents es w.picker) n w)
  unfolding with_picker is_ignored with_recent_extents piece_at
  waiting_forgets es n w h = record {
    way = way_extents es w.picker h.way;
    facts = placed_extents es w.picker h.facts;
    unmarked = h.unmarked;
    visits = h.visits;
  }

  with_due : (es : List ℕ) (n : ℕ) (w : PickState) → Due w → Due (with_picker (with_recent_extents es w.picker) n w)
  unfolding Due
  with_due es n w (sure h) = sure (picker_sure i j (with_recent_extents es w.picker) n w h)
  with_due es n w (waits h) = waits (waiting_forgets es n w h)

  forget_due : (place : Option ℕ) (w : PickState) → Due w → Due (forget_extent place w)
  unfolding forget_extent
  forget_due none w h = h
  forget_due (some k) w h = with_due (remove_nth k w.picker.recent_extents) w.used w h

  extent_due : (k : ℕ) (x : ExtentWalk) → Due x.work → Due (extent_step a k x).work
  unfolding extent_step
  extent_due k x h =
      let s = x.work.picker in
      let e = nth 0 s.recent_extents k in
      walk_due (visit_outside a extent_affinity) (outside_due extent_affinity) (outside_sure extent_affinity)
      (range (extent_start s e) (extent_end s e)) x.work h

  extents_due : (w : PickState) → Due w → Due (pick_extents a w)
  unfolding pick_extents walk
  extents_due w h =
      let x = walk (extent_step a) (λ y. spent y.work) (from 0 (len w.picker.recent_extents)) (record { work = w; finished = none }) in
      forget_due x.finished x.work
      (walk_until_keeps (λ y. Due y.work) (extent_step a) (λ k y. spent (extent_step a k y).work) extent_due
      (from 0 (len w.picker.recent_extents))
      (record { work = w; finished = none }) h)

  -- ---- the list
  forward_gives : r ≡ false → (w : PickState) → Due w → Sure i j (pick_forward a w)
  unfolding pick_forward
  forward_gives e w h =
      let v = when (option piece_extent_affinity a) (pick_extents a) w in
      let g = when_keeps Due (option piece_extent_affinity a) (pick_extents a) w h (λ o. extents_due w h) in
      unless_arms (Sure i j) (spent v) (λ u. walk (rare_step a) spent (list_of u.picker.listing) u) v
      (λ z. walk_gives (rare_step a) rare_due rare_sure (rare_reaches e) (list_of v.picker.listing) v (λ x. x.listed e) g)
      (λ z. spent_sure i j v z)

  -- the rarest phase
  pub rarest_gives : r ≡ false → (w : PickState) → Due w → Sure i j (pick_rarest a w)
  unfolding pick_rarest
  rarest_gives e w h =
      branch_arms (Sure i j) (option reverse a) (walk (reverse_rare_step a) spent (reversed (list_of w.picker.listing))) (pick_forward a) w
      (λ o. walk_gives (reverse_rare_step a) reverse_due reverse_sure (reverse_reaches e) (reversed (list_of w.picker.listing)) w
      (λ x. any-reversed (eqb i) (list_of w.picker.listing) (x.listed e)) h)
      (λ o. forward_gives e w h)
