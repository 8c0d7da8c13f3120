-- Partials and suggestions: after them the block is sure, or its piece waits. Assumes nothing.
use mathlib.Core.Path.{◌≡◌, refl, sym, ap, ◌∙◌, subst}
use Prim.Native.Nat.{ℕ, ◌+◌, ◌≤◌}
use native.Mathlib.Omega.{arith}
use mathlib.Core.Bool.{Bool, true, false, cond, not, ◌&&◌, ◌||◌, true≢false}
use mathlib.Core.List.{List, [], ◌∷◌}
use mathlib.Core.Option.{some}
use lib.Dec.{eqb, ltb}
use borrow.Author.Tests.{eqb-true, eq-eqb, ltb-true, lt-ltb, leb-true, not-true}
use Rattle.types.specs.declared.queue.DownloadQueue.TheVariants.{Downloading}
use Rattle.types.specs.declared.block.BlockState.TheVariants.{None}
use Rattle.types.specs.Queue.{unreverse}
use Rattle.model.specs.Lists.{bit, count, any, filter, len, when, walk, sort_by}
use Rattle.model.specs.State.{DownloadingPiece, Picker, same_queue, is_open, same_block_state, piece_at}
use Rattle.model.specs.Options.{on_parole, prioritize_partials, prioritized_partials, rarest_first_partials, suggested_pieces, partial_loops}
use Rattle.model.specs.Options.{suggest_loops}
use Rattle.model.specs.change.Partials.{find_dl_piece, partial_of, block_at, in_queue}
use Rattle.model.specs.pick.Blocks.{PickRequest, option, has_bit, PickState, spent, flagged, steps, is_ignored, is_piece_free, ignore}
use Rattle.model.specs.pick.Blocks.{requested_from, enough_aside, add_blocks, append_blocks, with_out, with_backup}
use Rattle.model.specs.pick.Pick.{usable, scan_partials, partial_compare_rarest_first, by_rarity, ordered_partials, partial_step, walk_partials}
use Rattle.model.specs.pick.Pick.{pick_scanned, pick_partials, suggest, pick_suggested}
use Rattle.model.proofs.base.Phases.{cond_arms}
use Rattle.model.proofs.base.SortLaws.{count_sort}
use Rattle.model.proofs.base.Truths.{and_left, and_right, true_both, four_true, by_test}
use Rattle.model.proofs.base.WalkLaws.{unless_keeps, when_keeps, walk_until_keeps}
use Rattle.model.proofs.pick.ScanLaws.{scan_work, scan_partials_lem}
use Rattle.agreement.proofs.complete.Reaching.{walk_reaches}
use Rattle.agreement.proofs.complete.Giving.{Sure, enough, flags_sure, steps_sure, downloading_sure, append_sure, blocks_sure}
use Rattle.agreement.proofs.complete.Standing.{any-filter}
use Rattle.agreement.proofs.complete.Taking.{Takes, Way, from_new, from_partial, when_made, downloading_taken}
use Rattle.agreement.proofs.complete.Quiet.{Quiet, quiet_self, quiet_flag, quiet_steps, quiet_downloading}
use Rattle.agreement.proofs.complete.Waiting.{Coming, sure, waits, coming_quiet, coming_mark, waiting_quiet, blocks_coming}
use Rattle.agreement.proofs.complete.Waiting.{blocks_reach}

-- ---- one of a list, by counts
module _ {A : Type 0} (t : A → Bool) where
  any-count : (l : List A) → any t l ≡ true → 1 ≤ count t l
  unfolding any count
  any-count [] h = absurd (true≢false (sym h))
  any-count (x ∷ l) h = go (t x) h (any-count l)
    where
      go : (b : Bool) → (b || any t l) ≡ true → (any t l ≡ true → 1 ≤ count t l) → 1 ≤ bit b + count t l
      go true e f = omega arith
      go false e f = let k = f e in omega arith

  count-any : (l : List A) → 1 ≤ count t l → any t l ≡ true
  unfolding any count
  count-any [] h = absurd (omega arith)
  count-any (x ∷ l) h = go (t x) h (count-any l)
    where
      go : (b : Bool) → 1 ≤ bit b + count t l → (1 ≤ count t l → any t l ≡ true) → (b || any t l) ≡ true
      go true e f = refl
      go false e f = f (omega arith)

  any_sort : (before : A → A → Bool) (l : List A) → any t l ≡ true → any t (sort_by before l) ≡ true
  any_sort before l h = count-any (sort_by before l) (omega (arith, count_sort before t l, any-count l h))

-- the partial that is found is one of them
any_found : (t : DownloadingPiece → Bool) (i : ℕ) (d : DownloadingPiece) (ds : List DownloadingPiece) → find_dl_piece i ds ≡ some d
    → t d ≡ true
    → any t ds ≡ true
unfolding find_dl_piece any
any_found t i d [] e h = let z : ◌≡◌ {A = ℕ} 0 1 = cc in absurd (omega arith)
any_found t i d (c ∷ ds) e h = go (eqb c.piece i) e (any_found t i d ds)
  where
    go : (b : Bool) → cond b (some c) (find_dl_piece i ds) ≡ some d → (find_dl_piece i ds ≡ some d → t d ≡ true → any t ds ≡ true)
        → (t c || any t ds) ≡ true
    go true q f = let p : c ≡ d = cc in rw (ap t p ∙ h)
    go false q f = or_right (t c) (any t ds) (f q h)
      where
        or_right : (b c : Bool) → c ≡ true → (b || c) ≡ true
        or_right true c g = refl
        or_right false c g = g

module _ (a : PickRequest) (i j : ℕ) where
  -- a partial whose free block may be taken, as a test
  unfoldable takes_test : DownloadingPiece → Bool
  takes_test d =
      eqb d.piece i
      && (not d.locked
      && ((not (option on_parole a) || (requested_from a.peer d).exclusive) &&
      (ltb j (len d.blocks) && same_block_state (block_at d j).state None)))

  takes_test_lem : (d : DownloadingPiece) → Takes a i j d → takes_test d ≡ true
  unfolding takes_test
  takes_test_lem d h =
      let q = not (option on_parole a) || (requested_from a.peer d).exclusive in
      let f = same_block_state (block_at d j).state None in
      true_both (eqb d.piece i) (not d.locked && (q && (ltb j (len d.blocks) && f))) (eq-eqb d.piece i h.piece)
      (true_both (not d.locked) (q && (ltb j (len d.blocks) && f)) (ap not h.unlocked)
      (true_both q (ltb j (len d.blocks) && f) h.alone
      (true_both (ltb j (len d.blocks)) f (lt-ltb j (len d.blocks) h.inside) h.free)))

  test_takes : (d : DownloadingPiece) → has_bit a i ≡ true → takes_test d ≡ true → Takes a i j d
  unfolding takes_test
  test_takes d b h =
      let q = not (option on_parole a) || (requested_from a.peer d).exclusive in
      let f = same_block_state (block_at d j).state None in
      let p = four_true (eqb d.piece i) (not d.locked) q (ltb j (len d.blocks) && f) h in
      record {
        piece = eqb-true d.piece i p.0;
        has = b;
        unlocked = not-true d.locked p.1;
        alone = p.2;
        inside = ltb-true j (len d.blocks) (and_left (ltb j (len d.blocks)) f p.3);
        free = and_right (ltb j (len d.blocks)) f p.3;
      }

  -- ---- the walk over partials
  partial_step_sure : (d : DownloadingPiece) (w : PickState) → Sure i j w → Sure i j (partial_step a d w)
  unfolding partial_step
  partial_step_sure d w h = downloading_sure i j a d (flagged prioritized_partials w) (flags_sure i j prioritized_partials w h)

  partial_step_taken : (d : DownloadingPiece) (w : PickState) → Takes a i j d → Sure i j (partial_step a d w)
  unfolding partial_step
  partial_step_taken d w t = downloading_taken i j a d (flagged prioritized_partials w) t

  partials_reach : (ds : List DownloadingPiece) (w : PickState) → has_bit a i ≡ true → any takes_test ds ≡ true
      → Sure i j (walk_partials a ds w)
  unfolding walk_partials enough_aside
  partials_reach ds w b h =
      let v = walk (partial_step a) enough_aside ds w in
      let g = walk_reaches (λ u. Unit {0}) (Sure i j) takes_test (partial_step a) (λ d u k. tt) partial_step_sure
      (λ d u e k. partial_step_taken d u (test_takes d b e)) enough_aside
      (λ u e k. enough (leb-true u.left (len u.backup) e)) ds w h tt in
      unless_keeps (Sure i j) (spent v) append_blocks v g (λ e. append_sure i j v g)

  -- the partial is among those that are walked
  scanned : (w : PickState) (d : DownloadingPiece) → is_piece_free a w.picker i ≡ true
      → same_queue (unreverse (piece_at w.picker i).state) Downloading ≡ true → partial_of w.picker i ≡ some d → Takes a i j d
      → any takes_test (ordered_partials a (scan_partials a w).work.picker (scan_partials a w).partials) ≡ true
  unfolding ordered_partials in_queue partial_of usable
  scanned w d f q e t =
      let ds = (scan_partials a w).partials in
      let queue : DownloadingPiece → Bool = λ c. same_queue (unreverse (piece_at w.picker c.piece).state) Downloading in
      let p : any takes_test ds ≡ true = rw (scan_partials_lem a w)
      (any-filter takes_test (usable a w.picker) (λ c g. can c g) (filter queue w.picker.partials)
      (any-filter takes_test queue (λ c g. stands c g) w.picker.partials
      (any_found takes_test i d w.picker.partials e (takes_test_lem d t)))) in
      cond_arms (λ l. any takes_test l ≡ true) (by_rarity a) (sort_by (partial_compare_rarest_first (scan_partials a w).work.picker) ds) ds
      (λ g. any_sort takes_test (partial_compare_rarest_first (scan_partials a w).work.picker) ds p) (λ g. p)
    where
      stands : (c : DownloadingPiece) → takes_test c ≡ true
          → same_queue (unreverse (piece_at w.picker c.piece).state) Downloading ≡ true
      stands c g =
          subst (λ k. same_queue (unreverse (piece_at w.picker k).state) Downloading ≡ true) (sym (test_takes c t.has g).piece) q

      can : (c : DownloadingPiece) → takes_test c ≡ true → usable a w.picker c ≡ true
      can c g =
          let k = test_takes c t.has g in
          true_both (is_piece_free a w.picker c.piece) (not c.locked)
          (subst (λ n. is_piece_free a w.picker n ≡ true) (sym k.piece) f)
          (ap not k.unlocked)

  -- the phase, where partials come first
  phase_reaches : (w : PickState) (d : DownloadingPiece) → option prioritize_partials a ≡ true → is_piece_free a w.picker i ≡ true
      → same_queue (unreverse (piece_at w.picker i).state) Downloading ≡ true → partial_of w.picker i ≡ some d → Takes a i j d
      → Sure i j (pick_partials a w)
  unfolding pick_partials pick_scanned
  phase_reaches w d o f q e t =
      when_made (Sure i j) (option prioritize_partials a) (λ v. pick_scanned a (scan_partials a v)) w o
      (partials_reach (ordered_partials a (scan_partials a w).work.picker (scan_partials a w).partials)
      (when (by_rarity a) (flagged rarest_first_partials) (scan_partials a w).work) t.has (scanned w d f q e t))

  -- ---- it leaves picker and marks
  quiet_append : (u w : PickState) → Quiet u w → Quiet u (append_blocks w)
  unfolding append_blocks with_backup with_out
  quiet_append u w h = record { picker = h.picker; marks = h.marks }

  quiet_walk : (u : PickState) (ds : List DownloadingPiece) (w : PickState) → Quiet u w → Quiet u (walk_partials a ds w)
  unfolding walk_partials walk partial_step
  quiet_walk u ds w h =
      let v = walk (partial_step a) enough_aside ds w in
      let g = walk_until_keeps (Quiet u) (partial_step a) (λ d t. enough_aside (partial_step a d t))
      (λ d t k. quiet_downloading u a d (flagged prioritized_partials t) (quiet_flag u prioritized_partials t k)) ds w h in
      unless_keeps (Quiet u) (spent v) append_blocks v g (λ e. quiet_append u v g)

  pub quiet_partials : (w : PickState) → Quiet w (pick_partials a w)
  unfolding pick_partials pick_scanned
  quiet_partials w =
      let x = scan_partials a w in
      let h : Quiet w x.work = rw (scan_work a w)
      (quiet_steps w (len (in_queue Downloading w.picker)) partial_loops w (quiet_self w)) in
      when_keeps (Quiet w) (option prioritize_partials a) (λ v. pick_scanned a (scan_partials a v)) w (quiet_self w)
      (λ e. quiet_walk w (ordered_partials a x.work.picker x.partials) (when (by_rarity a) (flagged rarest_first_partials) x.work)
      (when_keeps (Quiet w) (by_rarity a) (flagged rarest_first_partials) x.work h (λ g. quiet_flag w rarest_first_partials x.work h)))

  module _ (F : Picker → Type 0) where
    -- after the partials
    pub partials_coming : (w : PickState) → is_piece_free a w.picker i ≡ true → Way a i j w.picker → F w.picker
        → is_ignored i w ≡ false
        → Coming a i j F (pick_partials a w)
    partials_coming w f y x m = by_test (option prioritize_partials a) (λ e. first y e) (λ e. later (visits_standing e))
      where
        later : (is_open (piece_at w.picker i).state || not (option prioritize_partials a)) ≡ true → Coming a i j F (pick_partials a w)
        later v =
            waits (waiting_quiet a i j F w (pick_partials a w) (quiet_partials w) (record { way = y; facts = x; unmarked = m; visits = v }))

        visits_standing : option prioritize_partials a ≡ false
            → (is_open (piece_at w.picker i).state || not (option prioritize_partials a)) ≡ true
        visits_standing e = rw e (go (is_open (piece_at w.picker i).state))
          where
            go : (b : Bool) → (b || true) ≡ true
            go true = refl
            go false = refl

        first : Way a i j w.picker → option prioritize_partials a ≡ true → Coming a i j F (pick_partials a w)
        first (from_new o l) e = later (rw o)
        first (from_partial o q d g t) e = sure (phase_reaches w d e f q g t)

    -- ---- suggestions
    pub flag_coming : (f : ℕ) (w : PickState) → Coming a i j F w → Coming a i j F (flagged f w)
    flag_coming f w h = coming_quiet a i j F w (flagged f w) (quiet_flag w f w (quiet_self w)) (flags_sure i j f w) h

    pub steps_coming : (n c : ℕ) (w : PickState) → Coming a i j F w → Coming a i j F (steps n c w)
    steps_coming n c w h = coming_quiet a i j F w (steps n c w) (quiet_steps w n c w (quiet_self w)) (steps_sure i j n c w) h

    -- the piece visited
    pub reached : (w : PickState) → Coming a i j F w → Sure i j (add_blocks a i w)
    reached w (sure h) = blocks_sure i j a i w h
    reached w (waits h) = blocks_reach a i j F w h

    suggest_coming : (k : ℕ) (w : PickState) → Coming a i j F w → Coming a i j F (suggest a k w)
    unfolding suggest
    suggest_coming k w h =
        let v = steps 1 suggest_loops w in
        let u = flagged suggested_pieces v in
        let g = flag_coming suggested_pieces v (steps_coming 1 suggest_loops w h) in
        when_keeps (Coming a i j F) (is_piece_free a w.picker k) (λ t. ignore k (add_blocks a k (flagged suggested_pieces t))) v
        (steps_coming 1 suggest_loops w h)
        (λ e. coming_mark a i j F k (add_blocks a k u) (λ q. subst (λ n. Sure i j (add_blocks a n u)) q (reached u g))
        (blocks_coming a i j F k u g))

    -- after the suggestions
    pub suggested_coming : (w : PickState) → Coming a i j F w → Coming a i j F (pick_suggested a w)
    unfolding pick_suggested walk
    suggested_coming w h = walk_until_keeps (Coming a i j F) (suggest a) (λ k t. spent (suggest a k t)) suggest_coming a.suggestions w h
