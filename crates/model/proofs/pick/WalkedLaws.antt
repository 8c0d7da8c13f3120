-- What code walks: blocks round a piece, partials of a queue and the head of the list, as walks with a test over what is stored.
-- Assumes nothing.
use mathlib.Core.Path.{◌≡◌, refl}
use Prim.Native.Nat.{ℕ, ◌+◌, ◌%◌}
use mathlib.Core.Bool.{Bool, true, false, cond, not, ◌&&◌, ◌||◌}
use mathlib.Core.List.{List, [], ◌∷◌}
use lib.Dec.{eqb}
use Rattle.types.specs.declared.queue.DownloadQueue.TheVariants.{Downloading}
use Rattle.types.specs.declared.block.BlockState.TheVariants.{None}
use Rattle.types.specs.Queue.{unreverse}
use Rattle.model.specs.Lists.{from, len, unless, when, for_each, walk_until, walk}
use Rattle.model.specs.State.{DownloadingPiece, Picker, top_priority, same_queue, same_block_state, piece_at}
use Rattle.model.specs.change.Partials.{block_at, in_queue}
use Rattle.model.specs.pick.Blocks.{PickRequest, PickState, enough_aside, took, put_aside, free_from, free_halt, take_free, set_aside}
use Rattle.model.specs.pick.Pick.{scan_step, scan_partials, leading_top}
use Rattle.model.proofs.base.WalkLists.{walk_until_chosen, for_each_chosen, for_each-filter}

-- ---- blocks round a piece
module _ (d : DownloadingPiece) (first : ℕ) where
  -- the block at step k, from `first` on
  unfoldable pub round_at : ℕ → ℕ
  round_at k = (k + first) % len d.blocks

  -- it is free
  unfoldable pub round_free : ℕ → Bool
  round_free k = same_block_state (block_at d (round_at k)).state None

  -- free blocks taken
  pub take_free_walk : (w : PickState) → take_free d first w
      ≡ walk_until (λ k. when (round_free k) (took d.piece (round_at k))) (λ k t. round_free k && free_halt d.piece (round_at k) t) (from 0 (len d.blocks)) w
  unfolding take_free free_from round_at round_free
  take_free_walk w =
      walk_until_chosen (λ j. same_block_state (block_at d j).state None) (λ k. (k + first) % len d.blocks) (took d.piece) (free_halt d.piece)
      (from 0 (len d.blocks)) w

  -- free blocks set aside
  pub set_aside_walk : (w : PickState) → set_aside d first w
      ≡ unless (enough_aside w) (for_each (λ k. when (round_free k) (put_aside d.piece (round_at k))) (from 0 (len d.blocks))) w
  unfolding set_aside free_from round_at round_free unless
  set_aside_walk w = go (enough_aside w)
    where
      go : (b : Bool) → unless b (for_each (put_aside d.piece) (free_from d first)) w
          ≡ unless b (for_each (λ k. when (round_free k) (put_aside d.piece (round_at k))) (from 0 (len d.blocks))) w
      go true = refl
      go false =
          for_each_chosen (λ j. same_block_state (block_at d j).state None) (λ k. (k + first) % len d.blocks) (put_aside d.piece) (from 0 (len d.blocks)) w

-- ---- the partials of the Downloading queue
-- all partials, with a test for the queue
pub scan_walk : (a : PickRequest) (w : PickState) → scan_partials a w
    ≡ for_each (λ d. when (same_queue (unreverse (piece_at w.picker d.piece).state) Downloading) (scan_step a d)) w.picker.partials
    (record { work = w; partials = [] })
unfolding scan_partials in_queue
scan_walk a w =
    for_each-filter (λ d. same_queue (unreverse (piece_at w.picker d.piece).state) Downloading) (scan_step a) w.picker.partials (record { work = w; partials = [] })

-- ---- the head of the list
-- a walk over the pieces of the top priority in front is a walk over the list that stops at the first other piece
module _ {S : Type 0} (s : Picker) (step : ℕ → S → S) (done : S → Bool) where
  pub leading_walk : (is : List ℕ) (t : S) → walk step done (leading_top s is) t
      ≡ walk_until (λ i. when (eqb (piece_at s i).priority top_priority) (step i)) (λ i u. not (eqb (piece_at s i).priority top_priority) || done (step i u)) is t
  unfolding walk walk_until leading_top unless when
  leading_walk [] t = refl
  leading_walk (i ∷ is) t = go (eqb (piece_at s i).priority top_priority) (leading_walk is (step i t))
    where
      more : ℕ → S → S
      more i = when (eqb (piece_at s i).priority top_priority) (step i)

      stop : ℕ → S → Bool
      stop i u = not (eqb (piece_at s i).priority top_priority) || done (step i u)

      turn : (c : Bool) → walk step done (leading_top s is) (step i t) ≡ walk_until more stop is (step i t)
          → unless c (λ v. walk step done (leading_top s is) v) (step i t) ≡ unless c (λ v. walk_until more stop is v) (step i t)
      turn true h = refl
      turn false h = h

      go : (b : Bool) → walk step done (leading_top s is) (step i t) ≡ walk_until more stop is (step i t)
          → walk step done (cond b (i ∷ leading_top s is) []) t ≡ unless (not b || done (step i t)) (λ v. walk_until more stop is v) (when b (step i) t)
      go true h = turn (done (step i t)) h
      go false h = refl
