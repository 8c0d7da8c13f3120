-- The end game gives one block at most, of a Full piece that the peer has; then the whole pick: its blocks may be given, but for the last
-- one where the end game gave it. Assumes nothing.
use mathlib.Core.Path.{◌≡◌, refl, sym, subst}
use Prim.Native.Nat.{ℕ, zero, suc, ◌-◌, ◌<◌}
use native.Mathlib.Omega.{arith}
use mathlib.Core.Bool.{true, false, not, ◌&&◌, ◌||◌, true≢false}
use mathlib.Core.List.{List, [], ◌∷◌, ◌++◌}
use mathlib.Core.Option.{some}
use lib.Dec.{eqb}
use borrow.Author.Tests.{eqb-false}
use Rattle.types.specs.declared.queue.DownloadQueue.TheVariants.{Full}
use Rattle.types.specs.declared.block.BlockState.TheVariants.{Requested}
use Rattle.types.specs.Queue.{unreverse}
use Rattle.model.specs.Lists.{from, filter, nth, set_nth, len, last_or}
use Rattle.model.specs.State.{Piece, DownloadingPiece, Picker, same_queue, same_block_state, same_peer, piece_at}
use Rattle.model.specs.Options.{on_parole, backup1, busy_loops}
use Rattle.model.specs.list.Order.{draw}
use Rattle.model.specs.change.Partials.{partial_of, block_at, in_queue}
use Rattle.model.specs.pick.Blocks.{PickRequest, option, has_bit, PieceBlock, PickState, start_state, spent, with_out, with_picker, flagged}
use Rattle.model.specs.pick.Blocks.{steps, piece_block, append_blocks}
use Rattle.model.specs.pick.Pick.{effective_request, start_pick, busy_blocks, max_end_game_pieces, full_partials, EndGame}
use Rattle.model.specs.pick.Pick.{no_partial, swap_remove, end_game_try, end_game_step, end_game_done, pick_end_game, pick_rest, phases, pick_pieces}
use Rattle.model.proofs.base.WalkLaws.{unless_keeps, repeat_keeps}
use Rattle.model.proofs.base.Truths.{or_no_left, or_no_right}
use Rattle.model.proofs.list.GroupMoves.{draw_le}
use Rattle.model.proofs.pick.PhaseLaws.{phases_ends, start_pick_keeps}
use Rattle.agreement.proofs.given.EachLaws.{Each, none_left, each-take, each-set, each_last, each-nth, each-filter, each_so}
use Rattle.agreement.proofs.given.EachLaws.{each_from}
use Rattle.agreement.proofs.given.LikeLaws.{like_self, like_piece}
use Rattle.agreement.proofs.given.AddLaws.{Allows, Clean, clean_flag, clean_steps, clean_picker, clean_append}
use Rattle.agreement.proofs.given.PhaseLaws.{pick_partials_clean, pick_suggested_clean, pick_main_clean}

-- a Full piece that the peer has
pub record Busy (s : Picker) (a : PickRequest) (d : DownloadingPiece) : Type 0 where
  pub partial : partial_of s d.piece ≡ some d
  pub has : has_bit a d.piece ≡ true
  pub state : same_queue (unreverse (piece_at s d.piece).state) Full ≡ true

-- the blocks that the end game may give: those of a Full piece that are requested, and that not this peer asked for last
pub record AllowsLast (s : Picker) (a : PickRequest) (Last : PieceBlock → Type 0) : Type 0 where
  pub of_full :
      (d : DownloadingPiece) (j : ℕ) → Busy s a d → option on_parole a ≡ false → j < len d.blocks
      → (same_block_state (block_at d j).state Requested && not (same_peer (block_at d j).peer a.peer)) ≡ true
      → Last (piece_block d.piece j)

-- what is given: fine, but for the last one where the end game gave it
pub data Ends (Ok Last : PieceBlock → Type 0) (blocks : List PieceBlock) : Type 0 where
  all_fine : Each Ok blocks → Ends Ok Last blocks
  one_more : (front : List PieceBlock) (b : PieceBlock) → Each Ok front → Last b → blocks ≡ front ++ (b ∷ []) → Ends Ok Last blocks

module _ (s : Picker) (a : PickRequest) (Ok Last : PieceBlock → Type 0) (last : AllowsLast s a Last)
    (parole : option on_parole a ≡ false) where
  -- the end game: until a block is found all is fine
  Trying : EndGame → Type 0
  Trying x = (x.found ≡ false → Clean s Ok x.work) × Ends Ok Last x.work.out × Each (Busy s a) x.pieces

  busy_ok : (d : DownloadingPiece) → Busy s a d → Each (λ j. Last (piece_block d.piece j)) (busy_blocks a d)
  unfolding busy_blocks
  busy_ok d u =
      let n = len d.blocks in
      each_so (λ j h. let l = h.0.1 in last.of_full d j u parole (omega arith) h.1) _
      (each-filter (λ j. same_block_state (block_at d j).state Requested && not (same_peer (block_at d j).peer a.peer)) (from 0 n)
      (each_from 0 n))

  swap_each : (k : ℕ) (ds : List DownloadingPiece) → 0 < len ds → Each (Busy s a) ds → Each (Busy s a) (swap_remove k ds)
  unfolding swap_remove
  swap_each k ds l h =
      each-take (len ds - 1) (set_nth k (last_or no_partial ds) ds) (each-set k (last_or no_partial ds) ds (each_last no_partial ds l h) h)

  try_ends : (ds : List ℕ) (k : ℕ) (d : DownloadingPiece) (js : List ℕ) (x : EndGame) → Each (λ j. Last (piece_block d.piece j)) js
      → 0 < len x.pieces → Each (Busy s a) x.pieces → Clean s Ok x.work → Trying (end_game_try ds k d js x)
  unfolding Trying end_game_try flagged with_picker with_out len
  try_ends ds k d [] x o l u h = ((λ e. h), all_fine h.out, swap_each k x.pieces l u)
  try_ends ds k d (j ∷ js) x o l u h =
      let n = draw ds x.work.used (len js) in
      let chosen = nth 0 (j ∷ js) n in (
        (λ e. absurd (true≢false e)),
        one_more x.work.out (piece_block d.piece chosen) h.out
            (each-nth 0 (j ∷ js) n (omega (arith, draw_le ds x.work.used (len js))) o) refl,
        u,
      )

  step_ends : (ds : List ℕ) (x : EndGame) → end_game_done x ≡ false → Trying x → Trying (end_game_step ds a x)
  unfolding end_game_step end_game_done Trying
  step_ends ds x e g =
      let w = x.work in
      let n = len x.pieces in
      let k = draw ds w.used (n - 1) in
      let d = nth no_partial x.pieces k in
      let h = g.0 (or_no_left x.found (eqb n 0) e) in
      let some_left : 0 < n = let z = eqb-false n 0 (or_no_right x.found (eqb n 0) e) in positive n z in
      let v = steps 1 busy_loops w in
      let c = clean_steps s Ok w h 1 busy_loops in
      try_ends ds k d (busy_blocks a d) (record { work = with_picker w.picker (suc w.used) v; pieces = x.pieces; found = false })
      (busy_ok d (each-nth no_partial x.pieces k (omega (arith, draw_le ds w.used (n - 1))) g.2))
      some_left g.2 (clean_picker s Ok v c w.picker (suc w.used) h.like)
    where
      positive : (n : ℕ) → (n ≡ 0 → ⊥) → 0 < n
      positive zero z = absurd (z refl)
      positive (suc n) z = omega arith

  full_busy : (found : Each (λ d. partial_of s d.piece ≡ some d) s.partials) (w : PickState) → Clean s Ok w
      → Each (Busy s a) (full_partials a w.picker)
  unfolding full_partials in_queue
  full_busy found w h =
      let q = w.picker in
      let ds : Each (λ d. partial_of s d.piece ≡ some d) q.partials = subst (Each (λ d. partial_of s d.piece ≡ some d))
      (sym h.like.partials) found in
      each-take max_end_game_pieces (filter (λ d. has_bit a d.piece) (in_queue Full q))
      (each_so (λ d g. record {
        partial = g.0.0;
        has = g.1;
        state = subst (λ (x : Piece). same_queue (unreverse x.state) Full ≡ true) (like_piece s q h.like d.piece) g.0.1;
      }) _
      (each-filter (λ d. has_bit a d.piece) (in_queue Full q)
      (each-filter (λ d. same_queue (unreverse (piece_at q d.piece).state) Full) q.partials ds)))

  pub pick_end_game_ends : (found : Each (λ d. partial_of s d.piece ≡ some d) s.partials) (ds : List ℕ) (w : PickState) → Clean s Ok w
      → Ends Ok Last (pick_end_game ds a w).out
  unfolding pick_end_game Trying
  pick_end_game_ends found ds w h =
      (repeat_keeps Trying (end_game_step ds a) end_game_done (step_ends ds) max_end_game_pieces
      (record { work = w; pieces = full_partials a w.picker; found = false }) ((λ e. h), all_fine h.out, full_busy found w h)).1

-- ---- the pick
module _ (s : Picker) (a : PickRequest) (Ok Last : PieceBlock → Type 0) (ok : Allows s a Ok) (last : AllowsLast s a Last)
    (named : (i : ℕ) (d : DownloadingPiece) → partial_of s i ≡ some d → d.piece ≡ i)
    (found : Each (λ d. partial_of s d.piece ≡ some d) s.partials) where
  rest_ends : (ds : List ℕ) (w : PickState) → Clean s Ok w → Ends Ok Last (pick_rest ds a w).out
  unfolding pick_rest
  rest_ends ds w h =
      let u = flagged backup1 w in
      let v = append_blocks u in
      let g = clean_append s Ok u (clean_flag s Ok w h backup1) in
      unless_keeps (λ t. Ends Ok Last t.out) (spent v || option on_parole a) (pick_end_game ds a) v (all_fine g.out)
      (λ e. pick_end_game_ends s a Ok Last last (or_no_right (spent v) (option on_parole a) e) found ds v g)

  pub phases_given : (ds : List ℕ) (w : PickState) → Clean s Ok w → Ends Ok Last (phases ds a w).out
  phases_given ds w h =
      phases_ends ds a (Clean s Ok) (Clean s Ok) (Clean s Ok) (λ t. Ends Ok Last t.out) (λ v g. g)
      (λ v e g. pick_suggested_clean s a Ok ok named found v g) (λ v g. g) (λ v e g. pick_main_clean s a Ok ok named found ds v g)
      (λ v g. all_fine g.out) (λ v e g. rest_ends ds v g) w (pick_partials_clean s a Ok ok named found w h)

-- a pick on s, by what is asked after the forcing rule
pub pick_given : (s : Picker) (a : PickRequest) (Ok Last : PieceBlock → Type 0) → Allows s (effective_request s a) Ok
    → AllowsLast s (effective_request s a) Last
    → ((i : ℕ) (d : DownloadingPiece) → partial_of s i ≡ some d → d.piece ≡ i) → Each (λ d. partial_of s d.piece ≡ some d) s.partials
    → (ds : List ℕ) → Ends Ok Last (pick_pieces ds s a).out
unfolding pick_pieces start_state
pick_given s a Ok Last ok last named found ds =
    phases_given s (effective_request s a) Ok Last ok last named found ds (start_pick s a)
    (start_pick_keeps s a (Clean s Ok) (λ f w h. clean_flag s Ok w h f) (record { like = like_self s; out = none_left; backup = none_left }))
