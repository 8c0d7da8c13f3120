-- The Rust's `mark_as_canceled` brings the piece's state up to date before it closes a partial without a block at work. The definition closes
-- it at once, as `abort_download` does: the two come to the same.
use mathlib.Core.Path.{◌≡◌, refl, ap}
use Prim.Native.Nat.{ℕ, zero, suc, ◌+◌, ◌-◌}
use native.Mathlib.Omega.{arith}
use mathlib.Core.Bool.{true, false, ◌||◌, or-true}
use mathlib.Core.List.{List, [], ◌∷◌}
use mathlib.Core.Option.{some}
use lib.Dec.{eqb}
use lib.ListN.{length-set}
use borrow.Author.Tests.{eq-eqb, eqb-true, le-ltb}
use Rattle.types.specs.declared.queue.DownloadQueue.{DownloadQueue}
use Rattle.types.specs.declared.queue.DownloadQueue.TheVariants.{Downloading, Full, Finished as FinishedQueue, ZeroPrio, Open}
use Rattle.types.specs.declared.queue.DownloadQueue.TheVariants.{DownloadingReverse, FullReverse}
use Rattle.types.specs.declared.block.BlockState.TheVariants.{None}
use Rattle.types.specs.Queue.{unreverse}
use Rattle.model.specs.Lists.{bit, count, len, nth, set_nth, unless}
use Rattle.model.specs.State.{Piece, Block, DownloadingPiece, no_block, is_open, same_queue, same_block_state, with_blocks, with_partials}
use Rattle.model.specs.State.{with_piece, piece_at}
use Rattle.model.specs.list.Order.{Drawing, drawing, no_draw, rank, change_and_update}
use Rattle.model.specs.change.Partials.{partial_of, block_at, blocks_in_state, progress, replace_partial, replace_block, new_state}
use Rattle.model.specs.change.Partials.{move_state, update_state_of, update_piece_state, drop_partial, erase_download_piece, erase_and_update}
use Rattle.model.specs.change.Changes.{set_block}
use Rattle.model.specs.image.WellFormed.{state_ok}
use Rattle.model.specs.image.Sound.{Sound}
use Rattle.model.proofs.base.Truths.{by_test}
use Rattle.model.proofs.sound.PartialLaws.{find_dl_piece_put_same, drop_put}

-- a free block where one was at work: one free block more
one_more : (b : Block) → same_block_state b.state None ≡ true → (l : List Block) (j : ℕ) → same_block_state (nth no_block l j).state None ≡ false
    → count (λ c. same_block_state c.state None) (set_nth j b l) ≡ suc (count (λ c. same_block_state c.state None) l)
unfolding count set_nth nth no_block same_block_state
one_more b e [] j f = absurd (omega (arith, ap bit f))
one_more b e (x ∷ xs) zero f = rw (e, f) (omega arith)
one_more b e (x ∷ xs) (suc j) f = omega (arith, one_more b e xs j f)

-- a piece of priority 0 with a partial is ZeroPrio
zero_prio : (q : DownloadQueue) → same_queue (unreverse q) ZeroPrio ≡ true → same_queue ZeroPrio q ≡ true
unfolding same_queue
zero_prio Downloading h = h
zero_prio Full h = h
zero_prio FinishedQueue h = h
zero_prio ZeroPrio h = h
zero_prio Open h = h
zero_prio DownloadingReverse h = h
zero_prio FullReverse h = h

zero_due : (d : DownloadingPiece) (priority : ℕ) (current : DownloadQueue) → eqb priority 0 ≡ true → new_state d priority current ≡ ZeroPrio
unfolding new_state
zero_due d priority current e = rw e

-- and so it is by the rule
zero_ok : (p : Piece) (d : DownloadingPiece) → eqb p.priority 0 ≡ true → state_ok p d ≡ true
    → same_queue (unreverse p.state) (new_state d p.priority Open) ≡ true
unfolding state_ok
zero_ok p d e o = rw (le-ltb 0 p.priority (omega (arith, eqb-true p.priority 0 e))) at o

-- a partial without a block at work is left
idle_left : (d : DownloadingPiece) (priority : ℕ) (current : DownloadQueue) → eqb priority 0 ≡ false → progress d + bit d.hashing ≡ 0
    → is_open (new_state d priority current) ≡ true
unfolding new_state is_open same_queue
idle_left d priority current e n = rw (e, eq-eqb (progress d + bit d.hashing) 0 n)

-- the partial `d` of piece i, whose only block at work is j, and which is not being hashed; j becomes the free block `b`
module _ (ds : List ℕ) (i j : ℕ) (d : DownloadingPiece) (b : Block) (w : Drawing) (v : Sound w.picker)
    (found : partial_of w.picker i ≡ some d) (alone : progress d ≡ 1) (unhashed : d.hashing ≡ false)
    (busy : same_block_state (block_at d j).state None ≡ false) (free : same_block_state b.state None ≡ true) where
  idle : DownloadingPiece
  idle = with_blocks (set_nth j b d.blocks) d

  no_progress : progress idle ≡ 0
  unfolding idle with_blocks progress blocks_in_state block_at len set_nth
  no_progress = omega (arith, length-set d.blocks j b, one_more b free d.blocks j busy, alone)

  none_left : progress idle + bit idle.hashing ≡ 0
  unfolding idle with_blocks
  none_left = rw (no_progress, unhashed) refl

  -- a piece of priority 0 is ZeroPrio before and after; any other is left where it is
  stays : (p : Piece) → state_ok p d ≡ true
      → (same_queue (new_state idle p.priority p.state) p.state || is_open (new_state idle p.priority p.state)) ≡ true
  stays p o = by_test (eqb p.priority 0) zero other
    where
      zero : eqb p.priority 0 ≡ true
          → (same_queue (new_state idle p.priority p.state) p.state || is_open (new_state idle p.priority p.state)) ≡ true
      zero e =
          let z = zero_prio p.state (rw (zero_due d p.priority Open e) at (zero_ok p d e o)) in
          rw (zero_due idle p.priority p.state e, z) refl

      other : eqb p.priority 0 ≡ false
          → (same_queue (new_state idle p.priority p.state) p.state || is_open (new_state idle p.priority p.state)) ≡ true
      other e = rw (idle_left idle p.priority p.state e none_left) (or-true (same_queue (new_state idle p.priority p.state) p.state))

  -- so the block is put in and nothing else is done
  put_alone : set_block ds i d j b w ≡ no_draw (replace_block d j b) w
  unfolding set_block update_piece_state update_state_of move_state unless no_draw drawing replace_block replace_partial with_partials partial_of piece_at idle with_blocks
  put_alone = rw (find_dl_piece_put_same i idle d w.picker.partials (v.partial i d found).piece found, stays (piece_at w.picker i) (v.partial i d found).state) refl

  -- and the partial goes in either case
  pub closed_alike : erase_and_update ds i (set_block ds i d j b w) ≡ erase_and_update ds i w
  unfolding erase_and_update change_and_update no_draw drawing erase_download_piece drop_partial with_piece piece_at replace_block replace_partial with_partials rank idle with_blocks
  closed_alike = rw put_alone (rw (drop_put i idle w.picker.partials (v.partial i d found).piece) refl)
