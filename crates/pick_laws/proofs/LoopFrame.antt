-- A phase keeps a bound on each counter that is not its own. Assumes nothing.
use mathlib.Core.Path.{◌≡◌, refl}
use Prim.Native.Nat.{ℕ, suc, ◌-◌, ◌≤◌}
use mathlib.Core.Bool.{false, ◌||◌}
use mathlib.Core.List.{List, [], ◌∷◌, ◌++◌}
use mathlib.Core.Option.{Option, none, some}
use Rattle.types.specs.declared.queue.DownloadQueue.TheVariants.{Downloading}
use Rattle.model.specs.Lists.{len}
use Rattle.model.specs.State.{pieces_in}
use Rattle.model.specs.Options.{on_parole, sequential, rarest_first, backup1, end_game, partial_loops, suggest_loops, reverse_rare_loops}
use Rattle.model.specs.Options.{rare_loops, rand_start_loops, rand_loops, busy_loops}
use Rattle.model.specs.list.Order.{draw}
use Rattle.model.specs.change.Partials.{in_queue}
use Rattle.model.specs.pick.Blocks.{PickRequest, option, PickState, spent, with_out, with_picker, flagged, steps, piece_block}
use Rattle.model.specs.pick.Blocks.{append_blocks, enough_aside}
use Rattle.model.specs.pick.Pick.{pick_partials, pick_suggested, forget_extent, pick_random, pick_end_game, with_list_updated, pick_listed}
use Rattle.model.specs.pick.Pick.{pick_main, pick_rest}
use Rattle.model.proofs.base.WalkLaws.{unless_keeps}
use Rattle.model.proofs.pick.FrameLaws.{backup_keeps, any_partial}
use Rattle.model.proofs.pick.PhaseLaws.{pick_partials_keeps, pick_suggested_keeps, ring_keeps, pick_listed_keeps, pick_end_game_keeps}
use Rattle.pick_laws.proofs.CounterLaws.{counter, counter_blind, counter_flag, counter_keeps, counter_kept}
use Rattle.model.proofs.base.Phases.{branch_arms}

-- ---- what draws, lists and extents leave alone
-- a draw
pub counter_drawn : (k : ℕ) (w : PickState) → counter k (with_picker w.picker (suc w.used) w) ≡ counter k w
unfolding counter with_picker
counter_drawn k w = refl

-- a list refreshed
pub counter_refreshed : (k : ℕ) (ds : List ℕ) (w : PickState) → counter k (with_list_updated ds w) ≡ counter k w
unfolding counter with_list_updated with_picker
counter_refreshed k ds w = refl

-- an extent forgotten
pub counter_forgets : (k : ℕ) (o : Option ℕ) (w : PickState) → counter k (forget_extent o w) ≡ counter k w
unfolding counter forget_extent with_picker
counter_forgets k none w = refl
counter_forgets k (some i) w = refl

-- the draw of a try
pub counter_tried : (k : ℕ) (w : PickState) → counter k (with_picker w.picker (suc w.used) (steps 1 busy_loops w)) ≡ counter k (steps 1 busy_loops w)
unfolding counter with_picker
counter_tried k w = refl

-- the block that one finds
pub counter_found : (k i j : ℕ) (w : PickState)
    → counter k (flagged end_game (with_picker w.picker (suc w.used) (with_out w.left w.contiguous (w.out ++ (piece_block i j ∷ [])) w))) ≡ counter k w
unfolding counter with_picker flagged with_out
counter_found k i j w = refl

-- ---- phases that leave a counter alone
module _ (k m : ℕ) (a : PickRequest) (loud : k ≡ rand_loops → ⊥) where
  upto_step : (n c : ℕ) → (k ≡ c → ⊥) → (w : PickState) → counter k w ≤ m → counter k (steps n c w) ≤ m
  upto_step n c d w h = counter_keeps k m n c w d h

  -- partials
  pub upto_partials : (k ≡ partial_loops → ⊥) → (w : PickState) → enough_aside w ≡ false → counter k w ≤ m → counter k (pick_partials a w) ≤ m
  upto_partials d w e h =
      pick_partials_keeps a any_partial (λ v. counter k v ≤ m) (counter_kept k m a loud) w e h (upto_step (len (in_queue Downloading w.picker)) partial_loops d w h)

  -- suggestions
  pub upto_suggested : (k ≡ suggest_loops → ⊥) → (w : PickState) → spent w ≡ false → counter k w ≤ m → counter k (pick_suggested a w) ≤ m
  upto_suggested d w z h = pick_suggested_keeps a any_partial (λ v. counter k v ≤ m) (counter_kept k m a loud) (upto_step 1 suggest_loops d) w z h

  -- the random walk
  pub upto_random : (k ≡ rand_start_loops → ⊥) → (ds : List ℕ) (w : PickState) → counter k w ≤ m → counter k (pick_random ds a w) ≤ m
  unfolding pick_random
  upto_random d ds w h =
      ring_keeps a any_partial (λ v. counter k v ≤ m) (counter_kept k m a loud) (upto_step 1 rand_start_loops d) (draw ds w.used (pieces_in w.picker - 1))
      (with_picker w.picker (suc w.used) w) (rw (counter_drawn k w) h)

  -- the list
  pub upto_listed : (k ≡ rare_loops → ⊥) → (k ≡ reverse_rare_loops → ⊥) → (ds : List ℕ) (w : PickState) → spent w ≡ false → counter k w ≤ m
      → counter k (pick_listed ds a w) ≤ m
  upto_listed d e ds w z h =
      let kept = counter_kept k m a loud in
      pick_listed_keeps a any_partial (λ v. counter k v ≤ m) (λ v. counter k v ≤ m) kept kept (λ v g. g) (λ o v g. rw (counter_forgets k o v) g)
      (upto_step 1 rare_loops d) (upto_step 1 reverse_rare_loops e) ds w z (rw (counter_refreshed k ds w) h)

  -- the main walk
  pub upto_main : (k ≡ rare_loops → ⊥) → (k ≡ reverse_rare_loops → ⊥) → (k ≡ rand_start_loops → ⊥) → (ds : List ℕ) (w : PickState) → spent w ≡ false → counter k w ≤ m
      → counter k (pick_main ds a w) ≤ m
  unfolding pick_main
  upto_main d e f ds w z h =
      branch_arms (λ v. counter k v ≤ m) (option sequential a || option rarest_first a) (pick_listed ds a) (pick_random ds a) w
      (λ q. upto_listed d e ds w z h) (λ q. upto_random f ds w h)

  upto_end_game : (k ≡ busy_loops → ⊥) → (ds : List ℕ) (w : PickState) → counter k w ≤ m → counter k (pick_end_game ds a w) ≤ m
  upto_end_game d ds w h =
      pick_end_game_keeps (λ n v. counter k v ≤ m) (λ v. counter k v ≤ m)
      (λ n v g. rw (counter_tried k v) (upto_step 1 busy_loops d v g)) (λ n v i j g. rw (counter_found k i j v) g) (λ n v g. g) ds a w h

  -- backup blocks and end game
  pub upto_rest : (k ≡ busy_loops → ⊥) → (ds : List ℕ) (w : PickState) → spent w ≡ false → counter k w ≤ m → counter k (pick_rest ds a w) ≤ m
  unfolding pick_rest
  upto_rest d ds w z h =
      let u = flagged backup1 w in
      let v = append_blocks u in
      let g = backup_keeps (λ t. counter k t ≤ m) (counter_blind k m) u (counter_flag k m backup1 w h) in
      unless_keeps (λ t. counter k t ≤ m) (spent v || option on_parole a) (pick_end_game ds a) v g (λ e. upto_end_game d ds v g)
