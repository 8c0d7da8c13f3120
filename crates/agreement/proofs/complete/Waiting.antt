-- A piece waits for its visit: it is not ignored, and other visits leave it so or give its block. A visit to it gives the block.
-- Assumes nothing.
use mathlib.Core.Path.{◌≡◌, refl, sym, ap, ◌∙◌, subst}
use mathlib.Core.Logic.{◌≢◌}
use Prim.Native.Nat.{ℕ, ◌<◌}
use native.Mathlib.Decide.{ℕ_discrete}
use mathlib.Core.Bool.{true, false, not, ◌||◌, true≢false}
use mathlib.Core.List.{List}
use mathlib.Core.Option.{some}
use lib.Seq.{get_or-set_other}
use lib.Dec.{eqb}
use borrow.Author.Tests.{eqb-true, not-true}
use Rattle.types.specs.declared.queue.DownloadQueue.TheVariants.{Downloading}
use Rattle.types.specs.Queue.{unreverse}
use Rattle.model.specs.Lists.{least, any, every, from, nth, set_nth, when, branch, for_each}
use Rattle.model.specs.State.{DownloadingPiece, Picker, same_queue, is_open, piece_at, payload_blocks_in_piece}
use Rattle.model.specs.Options.{prioritize_partials}
use Rattle.model.specs.change.Partials.{partial_of}
use Rattle.model.specs.pick.Blocks.{PickRequest, option, PickState, with_out, with_contiguous, ignore, is_ignored, contiguous_is_zero, shorter}
use Rattle.model.specs.pick.Blocks.{expand_piece, pieces_of, took, span_step, take_span, take_payload, add_new_piece, keeping_contiguous}
use Rattle.model.specs.pick.Blocks.{add_partial_of, add_standing, add_blocks}
use Rattle.model.specs.pick.Pick.{take_all}
use Rattle.model.proofs.base.Phases.{branch_arms}
use Rattle.model.proofs.base.Truths.{and_left, and_right}
use Rattle.model.proofs.base.WalkLaws.{unless_keeps, when_keeps, for_each_keeps, for_each_ends}
use Rattle.agreement.proofs.complete.Reaching.{for_each_reaches}
use Rattle.agreement.proofs.complete.Giving.{Sure, contiguous_sure, took_sure, marks_sure, payload_sure, all_sure, standing_sure}
use Rattle.agreement.proofs.complete.Taking.{Takes, Way, from_new, from_partial, when_made, unless_made, branch_first, branch_second}
use Rattle.agreement.proofs.complete.Taking.{downloading_taken, payload_taken, plain_taken, all_taken}
use Rattle.agreement.proofs.complete.Quiet.{span_open, span_holds, Quiet, quiet_self, quiet_took, quiet_run, quiet_standing}
use Rattle.agreement.proofs.complete.Quiet.{quiet_payload, quiet_all}

-- F is what else is to be known of the picker
module _ (a : PickRequest) (i j : ℕ) (F : Picker → Type 0) where
  -- the piece is to be visited: its block can be taken, it is not ignored, and a visit to a partial is not left out
  pub record Waiting (w : PickState) : Type 0 where
    pub way : Way a i j w.picker
    pub facts : F w.picker
    pub unmarked : is_ignored i w ≡ false
    pub visits : (is_open (piece_at w.picker i).state || not (option prioritize_partials a)) ≡ true

  -- the block is sure, or the piece waits
  pub data Coming (w : PickState) : Type 0 where
    sure : Sure i j w → Coming w
    waits : Waiting w → Coming w

  pub waiting_quiet : (w v : PickState) → Quiet w v → Waiting w → Waiting v
  unfolding is_ignored
  waiting_quiet w v q h = record {
    way = subst (Way a i j) (sym q.picker) h.way;
    facts = subst F (sym q.picker) h.facts;
    unmarked = ap (λ l. nth false l i) q.marks ∙ h.unmarked;
    visits = subst (λ s. (is_open (piece_at s i).state || not (option prioritize_partials a)) ≡ true) (sym q.picker) h.visits;
  }

  -- what leaves picker and marks as they are, and the block sure
  pub coming_quiet : (w v : PickState) → Quiet w v → (Sure i j w → Sure i j v) → Coming w → Coming v
  coming_quiet w v q f (sure h) = sure (f h)
  coming_quiet w v q f (waits h) = waits (waiting_quiet w v q h)

  -- an Open piece has the block among its first
  new_payload : (s : Picker) → Way a i j s → is_open (piece_at s i).state ≡ true → j < payload_blocks_in_piece s i
  new_payload s (from_new o l) e = l
  new_payload s (from_partial o q d f t) e = absurd (true≢false (sym e ∙ o))

  -- another piece ignored
  waiting_mark : (k : ℕ) (w : PickState) → i ≢ k → Waiting w → Waiting (ignore k w)
  unfolding is_ignored ignore set_nth nth
  waiting_mark k w n h = record {
    way = h.way;
    facts = h.facts;
    unmarked = get_or-set_other w.ignored k i true false n ∙ h.unmarked;
    visits = h.visits;
  }

  -- a piece ignored, whose visit is over
  pub coming_mark : (k : ℕ) (w : PickState) → (i ≡ k → Sure i j w) → Coming w → Coming (ignore k w)
  coming_mark k w f (sure h) = sure (marks_sure i j k w h)
  coming_mark k w f (waits h) = elim (ℕ_discrete i k) [ yes e ↦ sure (marks_sure i j k w (f e)) | no n ↦ waits (waiting_mark k w n h) ]

  -- ---- spans
  module _ (takes : ℕ → PickState → PickState) (quiet : (k : ℕ) (w : PickState) → Quiet w (takes k w))
      (stays : (k : ℕ) (w : PickState) → Sure i j w → Sure i j (takes k w))
      (this : (w : PickState) → j < payload_blocks_in_piece w.picker i → Sure i j (takes i w)) where
    step_sure : (k : ℕ) (w : PickState) → Sure i j w → Sure i j (span_step takes k w)
    unfolding span_step
    step_sure k w h =
        branch_arms (Sure i j) (is_ignored k w) (λ v. with_contiguous (shorter v.contiguous) v) (λ v. takes k (ignore k v)) w
        (λ e. contiguous_sure i j (shorter w.contiguous) w h) (λ e. stays k (ignore k w) (marks_sure i j k w h))

    -- another piece of the span
    step_other : (k : ℕ) (w : PickState) → i ≢ k → Waiting w → Waiting (span_step takes k w)
    unfolding span_step
    step_other k w n h =
        branch_arms Waiting (is_ignored k w) (λ v. with_contiguous (shorter v.contiguous) v) (λ v. takes k (ignore k v)) w
        (λ e. waiting_quiet w (with_contiguous (shorter w.contiguous) w) (quiet_run w (shorter w.contiguous) w (quiet_self w)) h)
        (λ e. waiting_quiet (ignore k w) (takes k (ignore k w)) (quiet k (ignore k w)) (waiting_mark k w n h))

    -- the piece itself
    step_this : (w : PickState) → Waiting w → is_open (piece_at w.picker i).state ≡ true → Sure i j (span_step takes i w)
    unfolding span_step ignore
    step_this w h o =
        branch_second (Sure i j) (is_ignored i w) (λ v. with_contiguous (shorter v.contiguous) v) (λ v. takes i (ignore i v)) w
        h.unmarked
        (this (ignore i w) (new_payload w.picker h.way o))

    step_waiting : (k : ℕ) (w : PickState) → is_open (piece_at w.picker k).state ≡ true → Waiting w → Coming (span_step takes k w)
    step_waiting k w o h = elim (ℕ_discrete i k) [
      | yes e ↦ sure (subst (λ n. Sure i j (span_step takes n w)) e (step_this w h (rw e o)))
      | no n ↦ waits (step_other k w n h)
    ]

    step_picker : (k : ℕ) (w : PickState) → (span_step takes k w).picker ≡ w.picker
    unfolding span_step with_contiguous with_out ignore
    step_picker k w =
        branch_arms (λ v. v.picker ≡ w.picker) (is_ignored k w) (λ v. with_contiguous (shorter v.contiguous) v)
        (λ v. takes k (ignore k v)) w
        (λ e. refl) (λ e. (quiet k (ignore k w)).picker)

    step_coming : (k : ℕ) (w : PickState) → is_open (piece_at w.picker k).state ≡ true → Coming w → Coming (span_step takes k w)
    step_coming k w o (sure h) = sure (step_sure k w h)
    step_coming k w o (waits h) = step_waiting k w o h

    -- a whole span of Open pieces
    span_coming : (ks : List ℕ) (w : PickState) → every (λ k. is_open (piece_at w.picker k).state) ks ≡ true → Coming w
        → Coming (take_span takes ks w)
    unfolding take_span every
    span_coming ks w o h =
        (for_each_ends (λ ms v. (v.picker ≡ w.picker) × (every (λ k. is_open (piece_at w.picker k).state) ms ≡ true) × Coming v)
        (span_step takes)
        (λ k ms v g. (
          step_picker k v ∙ g.0,
          and_right (is_open (piece_at w.picker k).state) (every (λ m. is_open (piece_at w.picker m).state) ms) g.1,
          step_coming k v
              (subst (λ s. is_open (piece_at s k).state ≡ true) (sym g.0)
              (and_left (is_open (piece_at w.picker k).state) (every (λ m. is_open (piece_at w.picker m).state) ms) g.1)) g.2,
        )) ks w (refl, o, h)).2

    -- a span that holds the piece
    span_reaches : (ks : List ℕ) (w : PickState) → is_open (piece_at w.picker i).state ≡ true → any (eqb i) ks ≡ true → Waiting w
        → Sure i j (take_span takes ks w)
    unfolding take_span
    span_reaches ks w o m h =
        for_each_reaches (λ v. (v.picker ≡ w.picker) × Coming v) (Sure i j) (eqb i) (span_step takes)
        (λ k v g. (step_picker k v ∙ g.0, at_open k v g.0 g.1)) step_sure
        (λ k v e g. subst (λ n. Sure i j (span_step takes n v)) (eqb-true i k e) (reach v g.0 g.1)) ks w m (refl, waits h)
      where
        here : (v : PickState) → v.picker ≡ w.picker → is_open (piece_at v.picker i).state ≡ true
        here v e = subst (λ s. is_open (piece_at s i).state ≡ true) (sym e) o

        at_open : (k : ℕ) (v : PickState) → v.picker ≡ w.picker → Coming v → Coming (span_step takes k v)
        at_open k v e (sure g) = sure (step_sure k v g)
        at_open k v e (waits g) = elim (ℕ_discrete i k) [
          | yes q ↦ sure (subst (λ n. Sure i j (span_step takes n v)) q (step_this v g (here v e)))
          | no n ↦ waits (step_other k v n g)
        ]

        reach : (v : PickState) → v.picker ≡ w.picker → Coming v → Sure i j (span_step takes i v)
        reach v e (sure g) = step_sure i v g
        reach v e (waits g) = step_this v g (here v e)

  -- ---- a piece
  each_took_sure : (k : ℕ) (js : List ℕ) (w : PickState) → Sure i j w → Sure i j (for_each (took k) js w)
  each_took_sure k js w h = for_each_keeps (Sure i j) (took k) (took_sure i j k) js w h

  new_coming : (k : ℕ) (w : PickState) → is_open (piece_at w.picker k).state ≡ true → Coming w → Coming (add_new_piece a k w)
  unfolding add_new_piece
  new_coming k w o h =
      let js = from 0 (least (payload_blocks_in_piece w.picker k) w.left) in
      branch_arms Coming (contiguous_is_zero w.contiguous) (for_each (took k) js) (take_span take_payload (pieces_of (expand_piece a k w))) w
      (λ e. coming_quiet w (for_each (took k) js w) (for_each_keeps (Quiet w) (took k) (quiet_took w k) js w (quiet_self w))
      (each_took_sure k js w) h)
      (λ e. span_coming take_payload (λ n v. quiet_payload v n v (quiet_self v)) (payload_sure i j) (payload_taken i j)
      (pieces_of (expand_piece a k w)) w (span_open a k w o) h)

  new_reaches : (w : PickState) → is_open (piece_at w.picker i).state ≡ true → Waiting w → Sure i j (add_new_piece a i w)
  unfolding add_new_piece
  new_reaches w o h =
      let js = from 0 (least (payload_blocks_in_piece w.picker i) w.left) in
      branch_arms (Sure i j) (contiguous_is_zero w.contiguous) (for_each (took i) js)
      (take_span take_payload (pieces_of (expand_piece a i w))) w
      (λ e. plain_taken i j w (new_payload w.picker h.way o))
      (λ e. span_reaches take_payload (λ n v. quiet_payload v n v (quiet_self v)) (payload_sure i j) (payload_taken i j)
      (pieces_of (expand_piece a i w)) w o (span_holds a i w) h)

  -- a visit to any piece
  pub blocks_coming : (k : ℕ) (w : PickState) → Coming w → Coming (add_blocks a k w)
  unfolding add_blocks keeping_contiguous
  blocks_coming k w h =
      let q = (piece_at w.picker k).state in
      let f = when (same_queue (unreverse q) Downloading) (add_standing a k) in
      unless_keeps Coming (is_ignored k w) (branch (is_open q) (keeping_contiguous (add_new_piece a k)) f) w h
      (λ e. branch_arms Coming (is_open q) (keeping_contiguous (add_new_piece a k)) f w
      (λ o. let v = add_new_piece a k w in
      coming_quiet v (with_contiguous w.contiguous v) (quiet_run v w.contiguous v (quiet_self v))
      (contiguous_sure i j w.contiguous v) (new_coming k w o h))
      (λ o. when_keeps Coming (same_queue (unreverse q) Downloading) (add_standing a k) w h
      (λ z. coming_quiet w (add_standing a k w) (quiet_standing w a k w (quiet_self w)) (standing_sure i j a k w) h)))

  standing_reaches : (w : PickState) (d : DownloadingPiece) → partial_of w.picker i ≡ some d → Takes a i j d
      → option prioritize_partials a ≡ false
      → Sure i j (add_standing a i w)
  unfolding add_standing add_partial_of
  standing_reaches w d e t p =
      unless_made (Sure i j) (option prioritize_partials a) (add_partial_of a (partial_of w.picker i)) w p
      (subst (λ o. Sure i j (add_partial_of a o w)) (sym e) (downloading_taken i j a d w t))

  -- a visit to the piece
  pub blocks_reach : (w : PickState) → Waiting w → Sure i j (add_blocks a i w)
  unfolding add_blocks keeping_contiguous
  blocks_reach w h =
      let q = (piece_at w.picker i).state in
      let f = when (same_queue (unreverse q) Downloading) (add_standing a i) in
      unless_made (Sure i j) (is_ignored i w) (branch (is_open q) (keeping_contiguous (add_new_piece a i)) f) w h.unmarked (go h.way)
    where
      go : Way a i j w.picker
          → Sure i j (branch (is_open (piece_at w.picker i).state) (keeping_contiguous (add_new_piece a i))
          (when (same_queue (unreverse (piece_at w.picker i).state) Downloading) (add_standing a i)) w)
      go (from_new o l) =
          branch_first (Sure i j) (is_open (piece_at w.picker i).state) (keeping_contiguous (add_new_piece a i))
          (when (same_queue (unreverse (piece_at w.picker i).state) Downloading) (add_standing a i)) w o
          (contiguous_sure i j w.contiguous (add_new_piece a i w) (new_reaches w o h))
      go (from_partial o q d e t) =
          branch_second (Sure i j) (is_open (piece_at w.picker i).state) (keeping_contiguous (add_new_piece a i))
          (when (same_queue (unreverse (piece_at w.picker i).state) Downloading) (add_standing a i)) w o
          (when_made (Sure i j) (same_queue (unreverse (piece_at w.picker i).state) Downloading) (add_standing a i) w q
          (standing_reaches w d e t (not-true (option prioritize_partials a) (rw o at h.visits))))

  -- ---- the random walk's span
  pub random_coming : (k : ℕ) (w : PickState) → is_open (piece_at w.picker k).state ≡ true → Coming w
      → Coming (take_span take_all (pieces_of (expand_piece a k w)) w)
  random_coming k w o h =
      span_coming take_all (λ n v. quiet_all v n v (quiet_self v)) (all_sure i j) (all_taken i j) (pieces_of (expand_piece a k w)) w
      (span_open a k w o) h

  pub random_reaches : (ks : List ℕ) (w : PickState) → is_open (piece_at w.picker i).state ≡ true → any (eqb i) ks ≡ true → Waiting w
      → Sure i j (take_span take_all ks w)
  random_reaches ks w o m h = span_reaches take_all (λ n v. quiet_all v n v (quiet_self v)) (all_sure i j) (all_taken i j) ks w o m h
