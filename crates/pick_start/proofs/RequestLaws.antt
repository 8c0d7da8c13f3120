-- Suggestions belong to their own phase: every other part of a pick is the same without them. Assumes nothing.
use mathlib.Core.Path.{◌≡◌, refl, ap, fun_ext}
use mathlib.Core.Bool.{false, cond}
use mathlib.Core.List.{List}
use mathlib.Core.Option.{Option, none, some}
use Prim.Native.Nat.{ℕ, zero, suc, ◌-◌}
use Rattle.model.specs.Lists.{walk, repeat}
use Rattle.model.specs.State.{DownloadingPiece, Picker}
use Rattle.model.specs.list.Order.{Draws}
use Rattle.model.specs.pick.Blocks.{PickRequest, option, has_bit, PickState, spent, is_piece_free, can_pick, down_by, up_by, lowest_start}
use Rattle.model.specs.pick.Blocks.{span_from, span_of}
use Rattle.model.specs.pick.Blocks.{expand_piece, add_new_piece, add_blocks_downloading, add_partial_of, add_standing, add_blocks}
use Rattle.model.specs.pick.Pick.{usable, scan_step, scan_partials, by_rarity, ordered_partials, partial_step, walk_partials, pick_scanned}
use Rattle.model.specs.pick.Pick.{pick_partials}
use Rattle.model.specs.pick.Pick.{visit, suggest, pick_suggested, visit_below_top, pick_range, pick_sequential, in_range, visit_outside, rare_step}
use Rattle.model.specs.pick.Pick.{reverse_rare_step, extent_step, pick_extents, pick_forward, pick_rarest, RandomWalk, stands_open, skip_done, skip}
use Rattle.model.specs.pick.Pick.{random_span, random_piece, random_visit, lap_ends, lap_from, lap_step, walk_over, ring_fuel, trace}
use Rattle.model.specs.pick.Pick.{ring}
use Rattle.model.specs.pick.Pick.{pick_random, busy_blocks, full_partials, end_game_step, pick_end_game, pick_listed, pick_main}
use Rattle.model.specs.pick.Pick.{pick_rest}
use Rattle.pick_state.specs.declared.request.PickRequest.{PickRequest as Request}
use Rattle.pick_state.specs.Requests.{request_of}
use Rattle.pick_start.specs.Starting.{request_with}

module _ (q : Request) (bytes suggestions : List ℕ) where
  -- with and without them
  abbrev a : PickRequest
  a = request_with q bytes suggestions

  abbrev b : PickRequest
  b = request_of q bytes

  -- ---- a piece
  down_same : (s : Picker) (n i : ℕ) → down_by a s n i ≡ down_by b s n i
  unfolding down_by can_pick is_piece_free has_bit request_with request_of
  down_same s zero i = refl
  down_same s (suc n) i = ap (λ (k : ℕ). cond (can_pick b s (i - 1)) k i) (down_same s n (i - 1))

  up_same : (s : Picker) (n k : ℕ) → up_by a s n k ≡ up_by b s n k
  unfolding up_by can_pick is_piece_free has_bit request_with request_of
  up_same s zero k = refl
  up_same s (suc n) k = ap (λ (m : ℕ). cond (can_pick b s k) m k) (up_same s n (suc k))

  span_same : (s : Picker) (i n : ℕ) → span_of a s i n ≡ span_of b s i n
  unfolding span_of span_from lowest_start option request_with request_of
  span_same s i zero = refl
  span_same s i (suc n) = rw (down_same s _ i, up_same s _ (suc i))

  pub expand_same : expand_piece a ≡ expand_piece b
  unfolding expand_piece
  expand_same = fun_ext (λ i. fun_ext (λ w. span_same w.picker i _))

  new_same : (i : ℕ) → add_new_piece a i ≡ add_new_piece b i
  unfolding add_new_piece
  new_same i = fun_ext (λ w. rw expand_same)

  partial_same : (d : DownloadingPiece) → add_blocks_downloading a d ≡ add_blocks_downloading b d
  unfolding add_blocks_downloading has_bit option request_with request_of
  partial_same d = refl

  standing_same : (found : Option DownloadingPiece) → add_partial_of a found ≡ add_partial_of b found
  unfolding add_partial_of
  standing_same none = refl
  standing_same (some d) = partial_same d

  stands_same : (i : ℕ) → add_standing a i ≡ add_standing b i
  unfolding add_standing option request_with request_of
  stands_same i = fun_ext (λ w. rw (standing_same _))

  pub blocks_same : add_blocks a ≡ add_blocks b
  unfolding add_blocks
  blocks_same = fun_ext (λ i. fun_ext (λ w. rw (new_same i, stands_same i)))

  visit_same : visit a ≡ visit b
  unfolding visit is_piece_free has_bit request_with request_of
  visit_same = fun_ext (λ flag. fun_ext (λ i. fun_ext (λ w. rw blocks_same)))

  pub suggest_same : suggest a ≡ suggest b
  unfolding suggest is_piece_free has_bit request_with request_of
  suggest_same = fun_ext (λ i. fun_ext (λ w. rw blocks_same))

  -- ---- by the list
  below_same : visit_below_top a ≡ visit_below_top b
  unfolding visit_below_top
  below_same = fun_ext (λ flag. fun_ext (λ i. fun_ext (λ w. rw visit_same)))

  range_same : pick_range a ≡ pick_range b
  unfolding pick_range option request_with request_of
  range_same = fun_ext (λ w. rw below_same)

  sequential_same : pick_sequential a ≡ pick_sequential b
  unfolding pick_sequential
  sequential_same = fun_ext (λ w. rw (visit_same, range_same))

  outside_same : visit_outside a ≡ visit_outside b
  unfolding visit_outside in_range option request_with request_of
  outside_same = fun_ext (λ flag. fun_ext (λ i. fun_ext (λ w. rw visit_same)))

  rare_same : rare_step a ≡ rare_step b
  unfolding rare_step
  rare_same = fun_ext (λ i. fun_ext (λ w. rw outside_same))

  reverse_same : reverse_rare_step a ≡ reverse_rare_step b
  unfolding reverse_rare_step
  reverse_same = fun_ext (λ i. fun_ext (λ w. rw outside_same))

  extent_same : extent_step a ≡ extent_step b
  unfolding extent_step
  extent_same = fun_ext (λ k. fun_ext (λ x. rw outside_same))

  extents_same : pick_extents a ≡ pick_extents b
  unfolding pick_extents
  extents_same = fun_ext (λ w. rw extent_same)

  forward_same : pick_forward a ≡ pick_forward b
  unfolding pick_forward option request_with request_of
  forward_same = fun_ext (λ w. rw (extents_same, rare_same))

  rarest_same : pick_rarest a ≡ pick_rarest b
  unfolding pick_rarest option request_with request_of
  rarest_same = fun_ext (λ w. rw (reverse_same, forward_same))

  listed_same : (draws : Draws) → pick_listed draws a ≡ pick_listed draws b
  unfolding pick_listed option request_with request_of
  listed_same draws = fun_ext (λ w. rw (sequential_same, rarest_same))

  -- ---- random
  span_walk_same : random_span a ≡ random_span b
  unfolding random_span
  span_walk_same = fun_ext (λ start. fun_ext (λ x. rw expand_same))

  piece_walk_same : random_piece a ≡ random_piece b
  unfolding random_piece
  piece_walk_same = fun_ext (λ start. fun_ext (λ x. rw blocks_same))

  visit_walk_same : random_visit a ≡ random_visit b
  unfolding random_visit
  visit_walk_same = fun_ext (λ start. fun_ext (λ x. rw (span_walk_same, piece_walk_same)))

  lap_same : lap_step a ≡ lap_step b
  unfolding lap_step lap_from lap_ends skip skip_done stands_open is_piece_free has_bit request_with request_of
  lap_same = fun_ext (λ start. fun_ext (λ x. rw visit_walk_same))

  ring_same : ring a ≡ ring b
  unfolding ring
  ring_same = fun_ext (λ start. fun_ext (λ w.
      ap (λ (f : ℕ → RandomWalk → RandomWalk). (repeat ring_fuel (f start) walk_over
      (record { work = w; place = start; back = false; seen = trace w; over = false })).work) lap_same))

  random_same : (draws : Draws) → pick_random draws a ≡ pick_random draws b
  unfolding pick_random
  random_same draws = fun_ext (λ w. rw ring_same)

  -- ---- the phases
  pub partials_same : pick_partials a ≡ pick_partials b
  unfolding pick_partials pick_scanned walk_partials partial_step ordered_partials by_rarity scan_partials scan_step usable is_piece_free has_bit
      option request_with request_of add_blocks_downloading
  partials_same = refl

  pub main_same : (draws : Draws) → pick_main draws a ≡ pick_main draws b
  unfolding pick_main option request_with request_of
  main_same draws = fun_ext (λ w. rw (listed_same draws, random_same draws))

  pub rest_same : (draws : Draws) → pick_rest draws a ≡ pick_rest draws b
  unfolding pick_rest pick_end_game end_game_step busy_blocks full_partials has_bit option request_with request_of
  rest_same draws = refl

  -- the second, with the pieces suggested
  pub suggested_same : pick_suggested a ≡ walk (suggest b) spent suggestions
  unfolding pick_suggested request_with
  suggested_same = fun_ext (λ w. ap (λ (f : ℕ → PickState → PickState). walk f spent suggestions w) suggest_same)
