-- The pieces of a span are Open, and it holds the one that it lies around; which parts of a pick leave picker and marks as they are.
-- Assumes nothing.
use mathlib.Core.Path.{◌≡◌, refl}
use mathlib.Core.Logic.{◌⊎◌, inl, inr, ⊎_elim}
use Prim.Native.Nat.{ℕ, zero, suc, ◌+◌, ◌-◌, ◌≤◌, ◌<◌}
use native.Mathlib.Decide.{dec_le, ℕ_discrete}
use native.Mathlib.Omega.{arith}
use mathlib.Core.Bool.{Bool, true, false, cond, not, ◌&&◌, ◌||◌}
use mathlib.Core.Option.{Option, none, some}
use lib.Dec.{eqb}
use Rattle.model.specs.Lists.{least, any, every, from, range, member, walk}
use Rattle.model.specs.State.{DownloadingPiece, Picker, is_open, piece_at, pieces_in, blocks_per_piece, blocks_in_piece, payload_blocks_in_piece}
use Rattle.model.specs.Options.{on_parole, prioritize_partials, align_expanded_pieces, rand_loops, random_pieces}
use Rattle.model.specs.change.Partials.{partial_of}
use Rattle.model.specs.pick.Blocks.{PickRequest, option, has_bit, Contiguous, PickState, with_out, with_contiguous, with_backup, flagged, steps}
use Rattle.model.specs.pick.Blocks.{contiguous_is_zero, contiguous_above, whole_pieces, is_piece_free, can_pick, down_by, up_by, alone, lowest_start}
use Rattle.model.specs.pick.Blocks.{span_from, span_of, expand_piece, pieces_of, took, contiguous_met, contiguous_over, take_payload}
use Rattle.model.specs.pick.Blocks.{RequestedFrom, requested_from, set_aside, free_from, free_halt, take_free, keeping_contiguous, use_free}
use Rattle.model.specs.pick.Blocks.{add_blocks_downloading, add_partial_of, add_standing}
use Rattle.model.specs.pick.Pick.{rand_step, take_all}
use Rattle.model.proofs.base.Phases.{branch_arms}
use Rattle.model.proofs.base.Truths.{and_right, true_both}
use Rattle.model.proofs.base.WalkLaws.{unless_keeps, when_keeps, walk_until_keeps}
use Rattle.pick_laws.proofs.AsideLaws.{aside_arms}
use Rattle.pick_laws.proofs.RoundLaws.{member_span}
use Rattle.pick_laws.proofs.SpanLaws.{span_around}

-- ---- the pieces of a span are Open
module _ (a : PickRequest) (s : Picker) where
  down_open : (n i k : ℕ) → down_by a s n i ≤ k → k < i → can_pick a s k ≡ true
  unfolding down_by
  down_open zero i k h g = absurd (omega arith)
  down_open (suc n) i k h g = go (can_pick a s (i - 1)) refl h (down_open n (i - 1) k)
    where
      go : (b : Bool) → can_pick a s (i - 1) ≡ b → cond b (down_by a s n (i - 1)) i ≤ k
          → (down_by a s n (i - 1) ≤ k → k < i - 1 → can_pick a s k ≡ true) → can_pick a s k ≡ true
      go true e l f = elim (ℕ_discrete k (i - 1)) [ yes q ↦ rw q e | no q ↦ f l (omega arith) ]
      go false e l f = absurd (omega arith)

  up_open : (n m k : ℕ) → m ≤ k → k < up_by a s n m → can_pick a s k ≡ true
  unfolding up_by
  up_open zero m k h g = absurd (omega arith)
  up_open (suc n) m k h g = go (can_pick a s m) refl g (up_open n (suc m) k)
    where
      go : (b : Bool) → can_pick a s m ≡ b → k < cond b (up_by a s n (suc m)) m
          → (suc m ≤ k → k < up_by a s n (suc m) → can_pick a s k ≡ true) → can_pick a s k ≡ true
      go true e l f = elim (ℕ_discrete k m) [ yes q ↦ rw q e | no q ↦ f (omega arith) l ]
      go false e l f = absurd (omega arith)

  -- a piece of the span around piece c is c, or can be picked
  span_can : (c n k : ℕ) → (span_of a s c n).first ≤ k → k < (span_of a s c n).end → (k ≡ c) ⊎ (can_pick a s k ≡ true)
  unfolding span_of span_from alone
  span_can c zero k h g = inl (omega arith)
  span_can c (suc n) k h g = elim (ℕ_discrete k c) [
    | yes e ↦ inl e
    | no e ↦ elim (dec_le k c) [
      | yes l ↦ inr (down_open (c - lowest_start a c (suc n)) c k h (omega arith))
      | no l ↦ inr (up_open
          (least (cond (option align_expanded_pieces a) (lowest_start a c (suc n)) (down_by a s (c - lowest_start a c (suc n)) c) + suc n)
          (pieces_in s) - suc c) (suc c) k (omega arith) g)
    ]
  ]

  open_can : (k : ℕ) → can_pick a s k ≡ true → is_open (piece_at s k).state ≡ true
  unfolding can_pick
  open_can k h = and_right (is_piece_free a s k) (is_open (piece_at s k).state) h

-- what holds of each number of a run
every-from : (ok : ℕ → Bool) (k n : ℕ) → ((m : ℕ) → k ≤ m → m < k + n → ok m ≡ true) → every ok (from k n) ≡ true
unfolding every from
every-from ok k zero f = refl
every-from ok k (suc n) f =
    true_both (ok k) (every ok (from (suc k) n)) (f k (omega arith) (omega arith))
    (every-from ok (suc k) n (λ m h g. f m (omega arith) (omega arith)))

-- all Open, around an Open piece
pub span_open : (a : PickRequest) (c : ℕ) (w : PickState) → is_open (piece_at w.picker c).state ≡ true
    → every (λ k. is_open (piece_at w.picker k).state) (pieces_of (expand_piece a c w)) ≡ true
unfolding pieces_of range expand_piece
span_open a c w h =
    let n = whole_pieces (blocks_per_piece w.picker) w.contiguous in
    let x = span_of a w.picker c n in
    every-from (λ k. is_open (piece_at w.picker k).state) x.first (x.end - x.first)
    (λ k l g. ⊎_elim (λ e. rw e h) (λ e. open_can a w.picker k e) (span_can a w.picker c n k l (omega arith)))

-- it holds the piece that it lies around
pub span_holds : (a : PickRequest) (c : ℕ) (w : PickState) → any (eqb c) (pieces_of (expand_piece a c w)) ≡ true
unfolding expand_piece member
span_holds a c w =
    let n = whole_pieces (blocks_per_piece w.picker) w.contiguous in
    let p = span_around a w.picker c n in
    member_span w.picker c p.0 (span_of a w.picker c n) p.1

-- ---- what leaves picker and marks as they are
pub record Quiet (w v : PickState) : Type 0 where
  pub picker : v.picker ≡ w.picker
  pub marks : v.ignored ≡ w.ignored

pub quiet_self : (w : PickState) → Quiet w w
quiet_self w = record { picker = refl; marks = refl }

module _ (u : PickState) where
  pub quiet_took : (k n : ℕ) (w : PickState) → Quiet u w → Quiet u (took k n w)
  unfolding took with_out
  quiet_took k n w h = record { picker = h.picker; marks = h.marks }

  pub quiet_run : (r : Contiguous) (w : PickState) → Quiet u w → Quiet u (with_contiguous r w)
  unfolding with_contiguous with_out
  quiet_run r w h = record { picker = h.picker; marks = h.marks }

  pub quiet_flag : (f : ℕ) (w : PickState) → Quiet u w → Quiet u (flagged f w)
  unfolding flagged
  quiet_flag f w h = record { picker = h.picker; marks = h.marks }

  pub quiet_steps : (n c : ℕ) (w : PickState) → Quiet u w → Quiet u (steps n c w)
  unfolding steps
  quiet_steps n c w h = record { picker = h.picker; marks = h.marks }

  quiet_aside : (d : DownloadingPiece) (first : ℕ) (w : PickState) → Quiet u w → Quiet u (set_aside d first w)
  unfolding with_backup
  quiet_aside d first w h = aside_arms (Quiet u) d first w h (λ e. record { picker = h.picker; marks = h.marks })

  quiet_free : (d : DownloadingPiece) (first : ℕ) (w : PickState) → Quiet u w → Quiet u (take_free d first w)
  unfolding take_free
  quiet_free d first w h = walk_until_keeps (Quiet u) (took d.piece) (free_halt d.piece) (quiet_took d.piece) (free_from d first) w h

  quiet_use : (d : DownloadingPiece) (x : RequestedFrom) (w : PickState) → Quiet u w → Quiet u (use_free d x w)
  unfolding use_free keeping_contiguous
  quiet_use d x w h =
      let first = cond (contiguous_is_zero w.contiguous) 0 x.first in
      branch_arms (Quiet u) (contiguous_above x.longest w.contiguous && x.active) (set_aside d first)
      (keeping_contiguous (take_free d first)) w
      (λ e. quiet_aside d first w h) (λ e. quiet_run w.contiguous (take_free d first w) (quiet_free d first w h))

  -- a partial
  pub quiet_downloading : (a : PickRequest) (d : DownloadingPiece) (w : PickState) → Quiet u w → Quiet u (add_blocks_downloading a d w)
  unfolding add_blocks_downloading
  quiet_downloading a d w h =
      let x = requested_from a.peer d in
      when_keeps (Quiet u) (has_bit a d.piece && (not d.locked && (not (option on_parole a) || x.exclusive))) (use_free d x) w h
      (λ e. quiet_use d x w h)

  pub quiet_partial : (a : PickRequest) (o : Option DownloadingPiece) (w : PickState) → Quiet u w → Quiet u (add_partial_of a o w)
  unfolding add_partial_of
  quiet_partial a none w h = h
  quiet_partial a (some d) w h = quiet_downloading a d w h

  pub quiet_standing : (a : PickRequest) (k : ℕ) (w : PickState) → Quiet u w → Quiet u (add_standing a k w)
  unfolding add_standing
  quiet_standing a k w h =
      unless_keeps (Quiet u) (option prioritize_partials a) (add_partial_of a (partial_of w.picker k)) w h
      (λ e. quiet_partial a (partial_of w.picker k) w h)

  -- blocks of a piece, one after another
  pub quiet_payload : (k : ℕ) (w : PickState) → Quiet u w → Quiet u (take_payload k w)
  unfolding take_payload walk
  quiet_payload k w h =
      walk_until_keeps (Quiet u) (took k) (λ n v. contiguous_met (took k n v)) (quiet_took k)
      (from 0 (payload_blocks_in_piece w.picker k)) w h

  pub quiet_all : (k : ℕ) (w : PickState) → Quiet u w → Quiet u (take_all k w)
  unfolding take_all walk rand_step
  quiet_all k w h =
      walk_until_keeps (Quiet u) (rand_step k) (λ n v. contiguous_over (rand_step k n v))
      (λ n v g. quiet_took k n (steps 1 rand_loops v) (quiet_steps 1 rand_loops v g))
      (from 0 (blocks_in_piece w.picker k)) (flagged random_pieces w) (quiet_flag random_pieces w h)
