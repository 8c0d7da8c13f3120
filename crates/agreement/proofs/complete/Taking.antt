-- What a visit to a piece takes: its free block is given or set aside, or as many are set aside as are wanted. Assumes nothing.
use mathlib.Core.Path.{◌≡◌, sym, ap, subst}
use Prim.Native.Nat.{ℕ, ◌≤◌, ◌<◌}
use native.Mathlib.Omega.{arith}
use mathlib.Core.Bool.{Bool, true, false, cond, not, ◌&&◌, ◌||◌}
use mathlib.Core.List.{List}
use mathlib.Core.Option.{some}
use lib.ListN.{length}
use lib.Dec.{eqb, leb}
use borrow.Author.Tests.{eqb-true, leb-true}
use Rattle.types.specs.declared.queue.DownloadQueue.TheVariants.{Downloading}
use Rattle.types.specs.declared.block.BlockState.TheVariants.{None}
use Rattle.types.specs.Queue.{unreverse}
use Rattle.model.specs.Lists.{least, any, from, each, len, unless, when, branch, walk, walk_until, for_each}
use Rattle.model.specs.State.{DownloadingPiece, Picker, same_queue, is_open, same_block_state, piece_at, blocks_in_piece, payload_blocks_in_piece}
use Rattle.model.specs.Options.{on_parole, rand_loops, random_pieces}
use Rattle.model.specs.change.Partials.{partial_of, block_at}
use Rattle.model.specs.pick.Blocks.{PickRequest, option, has_bit, PickState, spent, with_out, with_backup, flagged, steps, contiguous_is_zero}
use Rattle.model.specs.pick.Blocks.{contiguous_above, piece_block, took, contiguous_met, contiguous_over, take_payload, RequestedFrom}
use Rattle.model.specs.pick.Blocks.{requested_from, free_from, enough_aside, set_aside, free_halt, take_free, keeping_contiguous, use_free}
use Rattle.model.specs.pick.Blocks.{add_blocks_downloading}
use Rattle.model.specs.pick.Pick.{rand_step, take_all}
use Rattle.model.proofs.base.Counts.{length-from}
use Rattle.model.proofs.base.Phases.{branch_arms, cond_arms, unless_arms}
use Rattle.model.proofs.base.Truths.{and_right, true_both}
use Rattle.model.proofs.base.WalkLaws.{for_each_ends}
use Rattle.pick_laws.proofs.AsideLaws.{put_aside_all}
use Rattle.agreement.proofs.complete.Reaching.{walk_until_reaches, for_each_reaches}
use Rattle.agreement.proofs.complete.Giving.{Sure, enough, aside, spent_sure, contiguous_sure, took_sure, took_this, steps_sure}
use Rattle.agreement.proofs.complete.Giving.{given_back}
use Rattle.agreement.proofs.complete.Standing.{stands_from, stands_free, given_each}

-- a phase that is made
pub when_made : {S : Type 0} (P : S → Type 0) (b : Bool) (f : S → S) (w : S) → b ≡ true → P (f w) → P (when b f w)
unfolding when
when_made P b f w e h = rw e h

-- a phase that is not left out
pub unless_made : {S : Type 0} (P : S → Type 0) (b : Bool) (f : S → S) (w : S) → b ≡ false → P (f w) → P (unless b f w)
unfolding unless
unless_made P b f w e h = rw e h

-- one of two phases
pub branch_first : {S : Type 0} (P : S → Type 0) (b : Bool) (f g : S → S) (w : S) → b ≡ true → P (f w) → P (branch b f g w)
unfolding branch
branch_first P b f g w e h = rw e h

-- the other
pub branch_second : {S : Type 0} (P : S → Type 0) (b : Bool) (f g : S → S) (w : S) → b ≡ false → P (g w) → P (branch b f g w)
unfolding branch
branch_second P b f g w e h = rw e h

-- a free block of a partial that this peer may take from
pub record Takes (a : PickRequest) (i j : ℕ) (d : DownloadingPiece) : Type 0 where
  pub piece : d.piece ≡ i
  pub has : has_bit a i ≡ true
  pub unlocked : d.locked ≡ false
  pub alone : (not (option on_parole a) || (requested_from a.peer d).exclusive) ≡ true
  pub inside : j < len d.blocks
  pub free : same_block_state (block_at d j).state None ≡ true

-- a free block of a piece in picker s: the piece is Open, or a partial that may be taken from stands in the Downloading queue
pub data Way (a : PickRequest) (i j : ℕ) (s : Picker) : Type 0 where
  from_new : is_open (piece_at s i).state ≡ true → j < payload_blocks_in_piece s i → Way a i j s
  from_partial :
      is_open (piece_at s i).state ≡ false → same_queue (unreverse (piece_at s i).state) Downloading ≡ true → (d : DownloadingPiece)
      → partial_of s i ≡ some d → Takes a i j d → Way a i j s

module _ (i j : ℕ) where
  -- ---- blocks one after another
  taken : (halt : ℕ → PickState → Bool) → ((n : ℕ) (w : PickState) → halt n w ≡ true → spent (took i n w) ≡ true)
      → (js : List ℕ) (w : PickState) → any (eqb j) js ≡ true → Sure i j (walk_until (took i) halt js w)
  taken halt stops js w h =
      walk_until_reaches (λ v. Unit {0}) (Sure i j) (eqb j) (took i) (λ n v g. tt) (took_sure i j i)
      (λ n v e g. this n v e) halt (λ n v e g. spent_sure i j (took i n v) (stops n v e)) js w h tt
    where
      this : (n : ℕ) (v : PickState) → eqb j n ≡ true → Sure i j (took i n v)
      this n v e = rw (sym (eqb-true j n e)) (took_this i j v)

  each_taken : (js : List ℕ) (w : PickState) → any (eqb j) js ≡ true → Sure i j (for_each (took i) js w)
  each_taken js w h =
      for_each_reaches (λ v. Unit {0}) (Sure i j) (eqb j) (took i) (λ n v g. tt) (took_sure i j i) (λ n v e g. this n v e) js w h tt
    where
      this : (n : ℕ) (v : PickState) → eqb j n ≡ true → Sure i j (took i n v)
      this n v e = rw (sym (eqb-true j n e)) (took_this i j v)

  -- as many as are wanted
  spends : (js : List ℕ) (w : PickState) → w.left ≤ len js → Sure i j (for_each (took i) js w)
  unfolding took with_out len
  spends js w h =
      let l = for_each_ends (λ ns v. v.left ≤ length ns) (took i) (λ n ns v g. let k = g in omega arith) js w h in
      enough (omega arith)

  -- ---- a partial
  aside_taken : (d : DownloadingPiece) (first : ℕ) (w : PickState) → d.piece ≡ i → any (eqb j) (free_from d first) ≡ true
      → Sure i j (set_aside d first w)
  unfolding set_aside enough_aside with_backup free_from block_at
  aside_taken d first w p h =
      unless_arms (Sure i j) (leb w.left (len w.backup)) (for_each _ (free_from d first)) w
      (λ e. rw (put_aside_all d.piece (free_from d first) w)
      (aside (given_back i j w.backup (each (piece_block d.piece) (free_from d first)) (rw p (given_each i j (free_from d first) h)))))
      (λ e. enough (leb-true w.left (len w.backup) e))

  free_taken : (d : DownloadingPiece) (first : ℕ) (w : PickState) → d.piece ≡ i → any (eqb j) (free_from d first) ≡ true
      → Sure i j (take_free d first w)
  unfolding take_free free_halt free_from block_at
  free_taken d first w p h =
      rw p (taken (free_halt i) (λ n v e. and_right (not (contiguous_above 0 v.contiguous)) (spent (took i n v)) e) (free_from d first) w h)

  use_taken : (a : PickRequest) (d : DownloadingPiece) (h : RequestedFrom) (w : PickState) → Takes a i j d → Sure i j (use_free d h w)
  unfolding use_free keeping_contiguous
  use_taken a d h w t =
      let first = cond (contiguous_is_zero w.contiguous) 0 h.first in
      let g = stands_free d j t.inside t.free first in
      branch_arms (Sure i j) (contiguous_above h.longest w.contiguous && h.active) (set_aside d first)
      (keeping_contiguous (take_free d first)) w
      (λ e. aside_taken d first w t.piece g)
      (λ e. contiguous_sure i j w.contiguous (take_free d first w) (free_taken d first w t.piece g))

  pub downloading_taken : (a : PickRequest) (d : DownloadingPiece) (w : PickState) → Takes a i j d → Sure i j (add_blocks_downloading a d w)
  unfolding add_blocks_downloading
  downloading_taken a d w t =
      let h = requested_from a.peer d in
      let q = not (option on_parole a) || h.exclusive in
      let p = true_both (has_bit a d.piece) (not d.locked && q) (subst (λ k. has_bit a k ≡ true) (sym t.piece) t.has)
      (true_both (not d.locked) q (ap not t.unlocked) t.alone) in
      when_made (Sure i j) (has_bit a d.piece && (not d.locked && q)) (use_free d h) w p (use_taken a d h w t)

  -- ---- a new piece
  -- its blocks up to where run and N are met
  pub payload_taken : (w : PickState) → j < payload_blocks_in_piece w.picker i → Sure i j (take_payload i w)
  unfolding take_payload walk contiguous_met
  payload_taken w h =
      taken (λ n v. contiguous_met (took i n v))
      (λ n v e. and_right (contiguous_is_zero (took i n v).contiguous) (spent (took i n v)) e)
      (from 0 (payload_blocks_in_piece w.picker i)) w (stands_from j 0 (payload_blocks_in_piece w.picker i) (omega arith) (omega arith))

  -- as many as are wanted
  pub plain_taken : (w : PickState) → j < payload_blocks_in_piece w.picker i
      → Sure i j (for_each (took i) (from 0 (least (payload_blocks_in_piece w.picker i) w.left)) w)
  unfolding least len
  plain_taken w h =
      let n = payload_blocks_in_piece w.picker i in
      cond_arms (λ m. Sure i j (for_each (took i) (from 0 m) w)) (leb n w.left) n w.left
      (λ e. each_taken (from 0 n) w (stands_from j 0 n (omega arith) (omega arith)))
      (λ e. spends (from 0 w.left) w (omega (arith, length-from 0 w.left)))

  -- the same in the random walk
  rand_sure : (k n : ℕ) (w : PickState) → Sure i j w → Sure i j (rand_step k n w)
  unfolding rand_step
  rand_sure k n w h = took_sure i j k n (steps 1 rand_loops w) (steps_sure i j 1 rand_loops w h)

  rand_this : (w : PickState) → Sure i j (rand_step i j w)
  unfolding rand_step
  rand_this w = took_this i j (steps 1 rand_loops w)

  pub all_taken : (w : PickState) → j < payload_blocks_in_piece w.picker i → Sure i j (take_all i w)
  unfolding take_all walk contiguous_over payload_blocks_in_piece
  all_taken w h =
      let n = blocks_in_piece w.picker i in
      walk_until_reaches (λ v. Unit {0}) (Sure i j) (eqb j) (rand_step i) (λ k v g. tt) (rand_sure i)
      (λ k v e g. this k v e) (λ k v. contiguous_over (rand_step i k v))
      (λ k v e g. spent_sure i j (rand_step i k v)
      (and_right (not (contiguous_above 0 (rand_step i k v).contiguous)) (spent (rand_step i k v)) e))
      (from 0 n) (flagged random_pieces w) (stands_from j 0 n (omega arith) (omega arith)) tt
    where
      this : (k : ℕ) (v : PickState) → eqb j k ≡ true → Sure i j (rand_step i k v)
      this k v e = rw (sym (eqb-true j k e)) (rand_this v)
