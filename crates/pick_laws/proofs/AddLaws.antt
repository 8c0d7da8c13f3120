-- What a piece adds leaves picker, draws, flags, counters and run alone, and of n wanted never sets more than n + 255 blocks aside. Assumes nothing.
use mathlib.Core.Path.{◌≡◌, refl}
use Prim.Native.Nat.{ℕ, ◌≤◌}
use native.Mathlib.Omega.{arith}
use mathlib.Core.Bool.{true, cond, not, ◌&&◌, ◌||◌}
use mathlib.Core.Option.{Option, none, some}
use borrow.Author.Tests.{leb-true}
use Rattle.types.specs.declared.queue.DownloadQueue.TheVariants.{Downloading}
use Rattle.types.specs.Queue.{unreverse}
use Rattle.model.specs.Lists.{every, len, when, branch}
use Rattle.model.specs.State.{DownloadingPiece, same_queue, is_open, piece_at}
use Rattle.model.specs.Options.{on_parole, prioritize_partials}
use Rattle.model.specs.change.Partials.{partial_of}
use Rattle.model.specs.pick.Blocks.{PickRequest, option, has_bit, PickState, with_out, with_contiguous, with_backup, ignore, flagged}
use Rattle.model.specs.pick.Blocks.{steps, is_ignored, contiguous_is_zero, contiguous_above, took, add_new_piece, requested_from, set_aside}
use Rattle.model.specs.pick.Blocks.{take_free, keeping_contiguous, use_free, add_blocks_downloading, add_partial_of, add_standing, add_blocks}
use Rattle.model.specs.pick.Blocks.{append_blocks}
use Rattle.model.proofs.base.WalkLaws.{unless_keeps, when_keeps}
use Rattle.model.proofs.base.Phases.{branch_arms}
use Rattle.pick_laws.proofs.AsideLaws.{aside_arms, most_aside, added_most}
use Rattle.model.proofs.pick.FrameLaws.{Blind, blind_closed, Closed, any_partial, downloading_keeps, blocks_keeps, backup_keeps}
use Rattle.model.proofs.pick.PhaseLaws.{Kept, closed_kept}
use Rattle.pick_laws.proofs.BoundLaws.{small}

-- ---- what is left alone
-- from w to v only blocks, marks and the run change
pub record Untouched (w v : PickState) : Type 0 where
  pub picker : v.picker ≡ w.picker
  pub used : v.used ≡ w.used
  pub flags : v.flags ≡ w.flags
  pub loops : v.loops ≡ w.loops

untouched_blind : (w : PickState) → Blind (Untouched w)
unfolding with_out with_backup ignore
untouched_blind w = record {
  out = λ n r bs v h. record { picker = h.picker; used = h.used; flags = h.flags; loops = h.loops };
  backup = λ bs v h. record { picker = h.picker; used = h.used; flags = h.flags; loops = h.loops };
  marks = λ i v h. record { picker = h.picker; used = h.used; flags = h.flags; loops = h.loops };
}

untouched_self : (w : PickState) → Untouched w w
untouched_self w = record { picker = refl; used = refl; flags = refl; loops = refl }

-- what a piece adds
pub add_blocks_untouched : (a : PickRequest) (i : ℕ) (w : PickState) → Untouched w (add_blocks a i w)
add_blocks_untouched a i w = blocks_keeps any_partial (Untouched w) (blind_closed (Untouched w) (untouched_blind w)) a i w (untouched_self w)

-- it leaves the picker alone
pub add_blocks-picker : (a : PickRequest) (i : ℕ) (w : PickState) → (add_blocks a i w).picker ≡ w.picker
add_blocks-picker a i w = (add_blocks_untouched a i w).picker

-- and takes no draw
pub add_blocks-used : (a : PickRequest) (i : ℕ) (w : PickState) → (add_blocks a i w).used ≡ w.used
add_blocks-used a i w = (add_blocks_untouched a i w).used

-- what a partial adds
pub downloading_untouched : (a : PickRequest) (d : DownloadingPiece) (w : PickState) → Untouched w (add_blocks_downloading a d w)
unfolding any_partial
downloading_untouched a d w =
    downloading_keeps any_partial (Untouched w) (blind_closed (Untouched w) (untouched_blind w)) a d w refl (untouched_self w)

-- the blocks set aside, appended
pub append_untouched : (w : PickState) → Untouched w (append_blocks w)
append_untouched w = backup_keeps (Untouched w) (untouched_blind w) w (untouched_self w)

-- ---- the run
-- a partial leaves it as it is
pub downloading_contiguous : (a : PickRequest) (d : DownloadingPiece) (w : PickState) → (add_blocks_downloading a d w).contiguous ≡ w.contiguous
unfolding add_blocks_downloading use_free keeping_contiguous with_contiguous with_out with_backup
downloading_contiguous a d w =
    let held = requested_from a.peer d in
    let first = cond (contiguous_is_zero w.contiguous) 0 held.first in
    when_keeps (λ v. v.contiguous ≡ w.contiguous) (has_bit a d.piece && (not d.locked && (not (option on_parole a) || held.exclusive)))
    (use_free d held) w refl
    (λ e. branch_arms (λ v. v.contiguous ≡ w.contiguous) (contiguous_above held.longest w.contiguous && held.active) (set_aside d first)
    (keeping_contiguous (take_free d first)) w
    (λ q. aside_arms (λ v. v.contiguous ≡ w.contiguous) d first w refl (λ z. refl)) (λ q. refl))

partial_contiguous : (a : PickRequest) (o : Option DownloadingPiece) (w : PickState) → (add_partial_of a o w).contiguous ≡ w.contiguous
unfolding add_partial_of
partial_contiguous a none w = refl
partial_contiguous a (some d) w = downloading_contiguous a d w

-- so does a piece
pub add_blocks-contiguous : (a : PickRequest) (i : ℕ) (w : PickState) → (add_blocks a i w).contiguous ≡ w.contiguous
unfolding add_blocks add_standing keeping_contiguous with_contiguous with_out
add_blocks-contiguous a i w =
    let q = (piece_at w.picker i).state in
    let I : PickState → Type 0 = λ v. v.contiguous ≡ w.contiguous in
    let f = when (same_queue (unreverse q) Downloading) (add_standing a i) in
    unless_keeps I (is_ignored i w) (branch (is_open q) (keeping_contiguous (add_new_piece a i)) f) w refl
    (λ e. branch_arms I (is_open q) (keeping_contiguous (add_new_piece a i)) f w (λ o. refl)
    (λ o. when_keeps I (same_queue (unreverse q) Downloading) (add_standing a i) w refl
    (λ g. unless_keeps I (option prioritize_partials a) (add_partial_of a (partial_of w.picker i)) w refl
    (λ z. partial_contiguous a (partial_of w.picker i) w))))

-- ---- the blocks set aside
-- no more than n are wanted, no partial has more than 256 blocks, and no more are set aside than may be of n
pub record Holding (n : ℕ) (w : PickState) : Type 0 where
  pub partials : every small w.picker.partials ≡ true
  pub left : w.left ≤ n
  pub few : len w.backup ≤ most_aside n

holding_aside : (n : ℕ) (d : DownloadingPiece) (first : ℕ) (w : PickState) → small d ≡ true → Holding n w → Holding n (set_aside d first w)
unfolding with_backup small
holding_aside n d first w o h =
    aside_arms (Holding n) d first w h
    (λ e. record { partials = h.partials; left = h.left; few = added_most n d first w e h.left (leb-true (len d.blocks) 256 o) })

holding_closed : (n : ℕ) → Closed small (Holding n)
unfolding with_contiguous with_out took ignore
holding_closed n = record {
  ready = λ w h. h.partials;
  contiguous = λ r w h. record { partials = h.partials; left = h.left; few = h.few };
  takes = λ i j w h. record { partials = h.partials; left = let l = h.left in omega arith; few = h.few };
  marks = λ i w h. record { partials = h.partials; left = h.left; few = h.few };
  aside = holding_aside n;
}

holding_append : (n : ℕ) (w : PickState) → Holding n w → Holding n (append_blocks w)
unfolding append_blocks with_backup with_out len
holding_append n w h = record { partials = h.partials; left = let l = h.left in omega arith; few = omega arith }

-- each phase of a pick keeps the bound
pub holding_kept : (n : ℕ) (a : PickRequest) → Kept a small (Holding n)
unfolding flagged steps
holding_kept n a =
    closed_kept a small (Holding n) (holding_closed n) (λ f w h. record { partials = h.partials; left = h.left; few = h.few })
    (λ w h. record { partials = h.partials; left = h.left; few = h.few }) (holding_append n)
