-- A pick changes of the picker only the list and the extents, and takes at most 4,352 draws. Assumes nothing.
use mathlib.Core.Path.{◌≡◌, refl}
use Prim.Native.Nat.{ℕ, suc, ◌+◌, ◌-◌, ◌≤◌}
use native.Mathlib.Omega.{arith}
use mathlib.Core.Bool.{false, ◌||◌}
use mathlib.Core.List.{List}
use mathlib.Core.Option.{Option, none, some}
use Rattle.model.specs.Lists.{remove_nth}
use Rattle.model.specs.State.{Picker, with_recent_extents, pieces_in}
use Rattle.model.specs.Options.{on_parole, sequential, rarest_first, backup1, partial_loops, suggest_loops, reverse_rare_loops, rare_loops}
use Rattle.model.specs.Options.{rand_start_loops, rand_loops}
use Rattle.model.specs.list.Order.{drawing, draw, update_pieces}
use Rattle.model.specs.pick.Blocks.{PickRequest, option, PickState, start_state, spent, with_out, with_backup, with_picker, ignore}
use Rattle.model.specs.pick.Blocks.{flagged, steps, append_blocks, enough_aside}
use Rattle.model.specs.pick.Pick.{effective_request, start_pick, forget_extent, pick_random, max_end_game_pieces, pick_end_game}
use Rattle.model.specs.pick.Pick.{with_list_updated, pick_listed, pick_main, pick_rest, phases, pick_pieces}
use Rattle.model.proofs.base.WalkLaws.{unless_keeps}
use Rattle.model.proofs.pick.FrameLaws.{Blind, backup_keeps, any_partial}
use Rattle.model.proofs.pick.PhaseLaws.{Kept, blind_kept, pick_listed_keeps, ring_keeps, pick_end_game_keeps, phases_keeps}
use Rattle.model.proofs.pick.PhaseLaws.{start_pick_keeps, start_more}
use Rattle.model.proofs.base.Phases.{branch_arms}

-- ---- predicates of the picker and the draws alone
-- I of the picker and the draws used
unfoldable Of : (Picker → ℕ → Type 0) → PickState → Type 0
Of P w = P w.picker w.used

of_blind : (P : Picker → ℕ → Type 0) → Blind (Of P)
unfolding Of with_out with_backup ignore
of_blind P = record { out = λ n r bs w h. h; backup = λ bs w h. h; marks = λ i w h. h }

module _ (P : Picker → ℕ → Type 0) where
  of_flags : (f : ℕ) (w : PickState) → Of P w → Of P (flagged f w)
  unfolding Of flagged
  of_flags f w h = h

  of_steps : (n c : ℕ) (w : PickState) → Of P w → Of P (steps n c w)
  unfolding Of steps
  of_steps n c w h = h

  of_kept : (a : PickRequest) → Kept a any_partial (Of P)
  of_kept a = blind_kept a (Of P) (of_blind P) of_flags (of_steps 1 rand_loops)

-- ---- what a pick may do to the picker
-- nothing; the list refreshed; that, and one extent forgotten. The draws used so far are known too
pub data Leaves (ds : List ℕ) (s : Picker) : Picker → ℕ → Type 0 where
  same : (n : ℕ) → n ≤ 1 → Leaves ds s s n
  listed : Leaves ds s (update_pieces ds (drawing 0 s)).picker (update_pieces ds (drawing 0 s)).used
  forgot : (k : ℕ)
      → Leaves ds s (with_recent_extents (remove_nth k (update_pieces ds (drawing 0 s)).picker.recent_extents) (update_pieces ds (drawing 0 s)).picker) (update_pieces ds (drawing 0 s)).used

-- the same, and n draws of the end game at most
pub record Left (ds : List ℕ) (s : Picker) (n : ℕ) (q : Picker) (t : ℕ) : Type 0 where
  pub before : ℕ
  pub leaves : Leaves ds s q before
  pub draws : t ≤ before + n

module _ (ds : List ℕ) (s : Picker) where
  -- before the main walk, and after the list was refreshed
  Begun : Picker → ℕ → Type 0
  Begun q t = (q ≡ s) × (t ≡ 0)

  Fresh : Picker → ℕ → Type 0
  Fresh q t = (q ≡ (update_pieces ds (drawing 0 s)).picker) × (t ≡ (update_pieces ds (drawing 0 s)).used)

  begun_leaves : (w : PickState) → Of Begun w → Of (Leaves ds s) w
  unfolding Of Begun
  begun_leaves w h = rw (h.0, h.1) (same 0 (omega arith))

  fresh_leaves : (w : PickState) → Of Fresh w → Of (Leaves ds s) w
  unfolding Of Fresh
  fresh_leaves w h = rw (h.0, h.1) listed

  fresh_forgets : (o : Option ℕ) (w : PickState) → Of Fresh w → Of (Leaves ds s) (forget_extent o w)
  unfolding forget_extent Of with_picker Fresh
  fresh_forgets none w h = fresh_leaves w h
  fresh_forgets (some k) w h = rw (h.0, h.1) (forgot k)

  begun_refreshed : (w : PickState) → Of Begun w → Of Fresh (with_list_updated ds w)
  unfolding Of Begun Fresh with_list_updated with_picker
  begun_refreshed w h = rw (h.0, h.1) (refl, refl)

  begun_drawn : (w : PickState) → Of Begun w → Of (Leaves ds s) (with_picker w.picker (suc w.used) w)
  unfolding Of Begun with_picker
  begun_drawn w h = rw (h.0, h.1) (same 1 (omega arith))

  main_leaves : (a : PickRequest) (w : PickState) → spent w ≡ false → Of Begun w → Of (Leaves ds s) (pick_main ds a w)
  unfolding pick_main pick_random
  main_leaves a w z h =
      branch_arms (Of (Leaves ds s)) (option sequential a || option rarest_first a) (pick_listed ds a) (pick_random ds a) w
      (λ e. pick_listed_keeps a any_partial (Of Fresh) (Of (Leaves ds s)) (of_kept Fresh a) (of_kept (Leaves ds s) a) fresh_leaves fresh_forgets
      (of_steps (Leaves ds s) 1 rare_loops) (of_steps (Leaves ds s) 1 reverse_rare_loops) ds w z (begun_refreshed w h))
      (λ e. ring_keeps a any_partial (Of (Leaves ds s)) (of_kept (Leaves ds s) a) (of_steps (Leaves ds s) 1 rand_start_loops)
      (draw ds w.used (pieces_in w.picker - 1)) (with_picker w.picker (suc w.used) w) (begun_drawn w h))

  leaves_left : (n : ℕ) (w : PickState) → Of (Leaves ds s) w → Of (Left ds s n) w
  unfolding Of
  leaves_left n w h = record { before = w.used; leaves = h; draws = omega arith }

  -- the tries left, of 200
  Tried : ℕ → Picker → ℕ → Type 0
  Tried n q t = (m : ℕ) × Leaves ds s q m × (t + n ≤ m + max_end_game_pieces)

  end_game_leaves : (a : PickRequest) (w : PickState) → Of (Leaves ds s) w → Of (Left ds s 201) (pick_end_game ds a w)
  unfolding Of Tried with_picker steps flagged with_out
  end_game_leaves a w h =
      pick_end_game_keeps (λ n. Of (Tried n)) (Of (Left ds s 201))
      (λ n v g. (g.0, g.1, let l = g.2 in omega arith))
      (λ n v i j g. record { before = g.0; leaves = g.1; draws = let l = g.2 in omega arith })
      (λ n v g. record { before = g.0; leaves = g.1; draws = let l = g.2 in omega arith })
      ds a w (w.used, h, omega arith)

  rest_leaves : (a : PickRequest) (w : PickState) → spent w ≡ false → Of (Leaves ds s) w → Of (Left ds s 201) (pick_rest ds a w)
  unfolding pick_rest
  rest_leaves a w z h =
      let u = flagged backup1 w in
      let v = append_blocks u in
      let g = backup_keeps (Of (Leaves ds s)) (of_blind (Leaves ds s)) u (of_flags (Leaves ds s) backup1 w h) in
      unless_keeps (Of (Left ds s 201)) (spent v || option on_parole a) (pick_end_game ds a) v (leaves_left 201 v g) (λ e. end_game_leaves a v g)

  -- what a pick leaves, where it has begun and blocks are wanted
  phases_leave : (a : PickRequest) (w : PickState) → enough_aside w ≡ false → Of Begun w → Of (Left ds s 201) (phases ds a w)
  phases_leave a w d h =
      phases_keeps ds a any_partial (Of Begun) (Of (Leaves ds s)) (Of (Left ds s 201)) (of_kept Begun a)
      (λ n v g. of_steps Begun n partial_loops v g) (of_steps Begun 1 suggest_loops)
      begun_leaves (main_leaves a) (leaves_left 201) (rest_leaves a) w d h

  begin_begun : (a : PickRequest) → Of Begun (start_state s a)
  unfolding Of Begun start_state
  begin_begun a = (refl, refl)

  pick_leaves : (a : PickRequest) → 1 ≤ a.wanted → Of (Left ds s 201) (pick_pieces ds s a)
  unfolding pick_pieces
  pick_leaves a h = phases_leave (effective_request s a) (start_pick s a) (start_more s a h) (start_pick_keeps s a (Of Begun) (of_flags Begun) (begin_begun (effective_request s a)))

-- what a pick leaves of the picker: the list as it was or refreshed, and the extents with one forgotten at most
pub pick_left : (ds : List ℕ) (s : Picker) (a : PickRequest) → 1 ≤ a.wanted → Left ds s 201 (pick_pieces ds s a).picker (pick_pieces ds s a).used
unfolding Of
pick_left ds s a h = pick_leaves ds s a h
