-- A pick appends at most N + P + 255 blocks, and sets at most 2,303 aside. Assumes nothing.
use mathlib.Core.Path.{◌≡◌}
use Prim.Native.Nat.{ℕ, suc, ◌+◌, ◌-◌, ◌≤◌}
use native.Mathlib.Omega.{arith}
use mathlib.Core.Bool.{true, false, ◌||◌}
use mathlib.Core.List.{List, [], ◌∷◌}
use mathlib.Core.Option.{Option, none, some}
use lib.ListN.{length-append}
use Rattle.model.specs.Lists.{every, len}
use Rattle.model.specs.State.{Picker, with_recent_extents, pieces_in, blocks_per_piece}
use Rattle.model.specs.Options.{on_parole, sequential, rarest_first, backup1, partial_loops, suggest_loops, reverse_rare_loops, rare_loops}
use Rattle.model.specs.Options.{rand_start_loops}
use Rattle.model.specs.list.Order.{drawing, draw, update_pieces}
use Rattle.model.specs.pick.Blocks.{PickRequest, option, PickState, start_state, spent, with_out, with_picker, flagged, steps}
use Rattle.model.specs.pick.Blocks.{piece_block, append_blocks, enough_aside}
use Rattle.model.specs.pick.Pick.{effective_request, start_pick, forget_extent, take_all, pick_random, pick_end_game, with_list_updated}
use Rattle.model.specs.pick.Pick.{pick_listed, pick_main, pick_rest, phases, pick_pieces}
use Rattle.model.specs.image.Sound.{Sound}
use Rattle.model.specs.Calls.{request_fits}
use Rattle.model.proofs.base.WalkLaws.{unless_keeps}
use Rattle.model.proofs.pick.PhaseLaws.{flag_spent, Kept, pick_listed_keeps, ring_keeps, pick_end_game_keeps, phases_keeps}
use Rattle.model.proofs.pick.PhaseLaws.{start_pick_keeps, asked_wanted, asked_run, start_more}
use Rattle.model.proofs.list.ListingLaws.{OnlyListing, update_pieces_only}
use Rattle.model.proofs.pick.SoundPick.{ask_fits}
use Rattle.pick_laws.proofs.BoundLaws.{small, Fits, sound_fits, Tight, tight_more, tight_unspent, mark_tight, flag_tight}
use Rattle.pick_laws.proofs.BoundLaws.{step_tight, all_tight, span_tight, downloading_tight, blocks_tight, backup_tight}
use Rattle.model.proofs.base.Truths.{or_no_left}
use Rattle.model.proofs.base.Phases.{branch_arms}
use Rattle.pick_laws.proofs.AsideLaws.{most_aside}

only_of : (ds : List ℕ) (t : ℕ) (s : Picker) → OnlyListing s (update_pieces ds (drawing t s)).picker
unfolding drawing
only_of ds t s = update_pieces_only ds (drawing t s)

-- the geometry of a refreshed picker
fits_update_pieces : (b : ℕ) (ds : List ℕ) (t : ℕ) (s : Picker) → Fits b s.total_size s.piece_size s.partials
    → Fits b (update_pieces ds (drawing t s)).picker.total_size (update_pieces ds (drawing t s)).picker.piece_size (update_pieces ds (drawing t s)).picker.partials
fits_update_pieces b ds t s h = let o = only_of ds t s in rw (o.total_size, o.piece_size, o.partials) h

module _ (b N R : ℕ) (most : N ≤ 2048) where
  -- at most N + R + 255 are appended
  Bounded : PickState → Type 0
  Bounded w = Tight b N R (N + R + 255) w

  fits_ready : (w : PickState) → Bounded w → every small w.picker.partials ≡ true
  unfolding Bounded Tight
  fits_ready w h = h.0.partials

  -- a phase keeps that
  pub bounded_kept : (a : PickRequest) → Kept a small (Tight b N R (N + R + 255))
  unfolding Bounded
  bounded_kept a = record {
    ready = fits_ready;
    flags = flag_tight b N R (N + R + 255);
    marks = mark_tight b N R (N + R + 255);
    partial = λ d w o z h. let u = tight_unspent b N R (N + R + 255) w z h in downloading_tight b N R most a d w o u.0 u.1;
    piece = λ i w z h. let u = tight_unspent b N R (N + R + 255) w z h in blocks_tight b N R most a i w u.0 u.1;
    span = λ i w z h. let u = tight_unspent b N R (N + R + 255) w z h in span_tight b N R a take_all (all_tight b N R) i w u.0 u.1;
    backup = λ w z h. let u = tight_unspent b N R (N + R + 255) w z h in
        tight_more b N R N (N + R + 255) (append_blocks w) (omega arith) (backup_tight b N R most w u.0 u.1);
  }

  counts : (n c : ℕ) (w : PickState) → Bounded w → Bounded (steps n c w)
  unfolding Bounded
  counts n c w h = step_tight b N R (N + R + 255) n c w h

  refreshed_bounded : (ds : List ℕ) (w : PickState) → Bounded w → Bounded (with_list_updated ds w)
  unfolding Bounded Tight with_list_updated with_picker
  refreshed_bounded ds w h = (fits_update_pieces b ds w.used w.picker h.0, h.1)

  forgets_bounded : (o : Option ℕ) (w : PickState) → Bounded w → Bounded (forget_extent o w)
  unfolding Bounded Tight forget_extent with_picker with_recent_extents
  forgets_bounded none w h = h
  forgets_bounded (some k) w h = h

  main_bounded : (ds : List ℕ) (a : PickRequest) (w : PickState) → spent w ≡ false → Bounded w → Bounded (pick_main ds a w)
  unfolding pick_main pick_random Bounded with_picker Tight
  main_bounded ds a w z h =
      let k = bounded_kept a in
      branch_arms Bounded (option sequential a || option rarest_first a) (pick_listed ds a) (pick_random ds a) w
      (λ e. pick_listed_keeps a small Bounded Bounded k k (λ v g. g) forgets_bounded (counts 1 rare_loops) (counts 1 reverse_rare_loops) ds w z (refreshed_bounded ds w h))
      (λ e. ring_keeps a small Bounded k (counts 1 rand_start_loops) (draw ds w.used (pieces_in w.picker - 1)) (with_picker w.picker (suc w.used) w) h)

  -- what a pick comes to in the end
  Final : PickState → Type 0
  Final w = (len w.out ≤ N + R + 255) × (len w.backup ≤ most_aside 2048)

  bounded_final : (w : PickState) → Bounded w → Final w
  unfolding Bounded Final Tight
  bounded_final w h = (h.1.few, h.1.backup)

  end_game_final : (ds : List ℕ) (a : PickRequest) (w : PickState) → spent w ≡ false → Bounded w → Final (pick_end_game ds a w)
  unfolding Bounded Final Tight with_picker steps flagged with_out len
  end_game_final ds a w z h =
      let u = tight_unspent b N R (N + R + 255) w z h in
      pick_end_game_keeps (λ n v. (1 ≤ N) × Tight b N R (N - 1) v) Final
      (λ n v g. g)
      (λ n v i j g. (omega (arith, g.1.1.few, length-append v.out (piece_block i j ∷ [])), g.1.1.backup))
      (λ n v g. (omega (arith, g.1.1.few), g.1.1.backup))
      ds a w u

  rest_final : (ds : List ℕ) (a : PickRequest) (w : PickState) → spent w ≡ false → Bounded w → Final (pick_rest ds a w)
  unfolding pick_rest Bounded
  rest_final ds a w z h =
      let u = flagged backup1 w in
      let v = append_blocks u in
      let k = bounded_kept a in
      let g = k.backup u (flag_spent w backup1 z) (k.flags backup1 w h) in
      unless_keeps Final (spent v || option on_parole a) (pick_end_game ds a) v (bounded_final v g)
      (λ e. end_game_final ds a v (or_no_left (spent v) (option on_parole a) e) g)

  phases_final : (ds : List ℕ) (a : PickRequest) (w : PickState) → enough_aside w ≡ false → Bounded w → Final (phases ds a w)
  unfolding Bounded
  phases_final ds a w d h =
      phases_keeps ds a small Bounded Bounded Final (bounded_kept a) (λ n v g. counts n partial_loops v g) (λ v g. counts 1 suggest_loops v g)
      (λ v g. g) (main_bounded ds a) bounded_final (rest_final ds a) w d h

module _ (ds : List ℕ) (s : Picker) (a : PickRequest) (h : Sound s) (f : request_fits s a ≡ true) where
  -- nothing is appended yet
  begin_bounded : Tight (blocks_per_piece s) a.wanted a.contiguous (a.wanted + a.contiguous + 255) (start_state s (effective_request s a))
  unfolding Tight start_state len
  begin_bounded = (
    sound_fits s h,
    record {
      rest = omega (arith, asked_wanted s a);
      few = omega arith;
      backup = omega arith;
      contiguous = asked_run s a;
    },
  )

  -- so is the work that a pick starts from
  pub start_bounded : Tight (blocks_per_piece s) a.wanted a.contiguous (a.wanted + a.contiguous + 255) (start_pick s a)
  start_bounded =
      start_pick_keeps s a (Tight (blocks_per_piece s) a.wanted a.contiguous (a.wanted + a.contiguous + 255))
      (flag_tight (blocks_per_piece s) a.wanted a.contiguous (a.wanted + a.contiguous + 255)) begin_bounded

  final : (len (pick_pieces ds s a).out ≤ a.wanted + a.contiguous + 255) × (len (pick_pieces ds s a).backup ≤ most_aside 2048)
  unfolding pick_pieces Final Bounded
  final =
      phases_final (blocks_per_piece s) a.wanted a.contiguous (ask_fits s a f).wanted ds (effective_request s a) (start_pick s a) (start_more s a (ask_fits s a f).some) start_bounded

  -- a pick appends at most N + P + 255 blocks
  pub pick_output : len (pick_pieces ds s a).out ≤ a.wanted + a.contiguous + 255
  pick_output = final.0

  -- and at most 2,303 blocks are set aside
  pub pick_backup : len (pick_pieces ds s a).backup ≤ most_aside 2048
  pick_backup = final.1
