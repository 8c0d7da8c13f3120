-- Marks: a block asked for, received, on disk or given back keeps a picker well-formed.
use mathlib.Core.Path.{◌≡◌, refl, sym}
use Prim.Native.Nat.{ℕ, suc, ◌-◌, ◌≤◌, ◌<◌}
use native.Mathlib.Omega.{arith}
use mathlib.Core.Bool.{Bool, true, false, cond, not, ◌&&◌}
use mathlib.Core.List.{List}
use mathlib.Core.Option.{Option, none, some}
use lib.Dec.{eqb, ltb, leb}
use borrow.Author.Tests.{leb-true, leb-false, le-leb, eqb-true, not-false}
use Rattle.types.specs.declared.queue.DownloadQueue.TheVariants.{Downloading, DownloadingReverse}
use Rattle.types.specs.declared.block.BlockState.{BlockState}
use Rattle.types.specs.declared.block.BlockState.TheVariants.{None, Requested, Writing, Finished}
use Rattle.types.specs.Block.{block_state_number}
use Rattle.types.proofs.BlockNumbers.{block_state_numbers}
use Rattle.model.specs.Lists.{len}
use Rattle.model.specs.State.{Block, DownloadingPiece, Picker, max_peers, max_partials, is_open, same_queue, same_block_state, same_peer}
use Rattle.model.specs.State.{has_peer, with_peer, piece_at, pieces_in}
use Rattle.model.specs.list.Order.{Drawing, drawing, no_draw}
use Rattle.model.specs.change.Partials.{partial_of, block_at, progress, replace_block, erase_and_update}
use Rattle.model.specs.change.Changes.{saying, reverse_asked, affinity_asked, set_block, mark_opening, make_piece_reverse, requested_by}
use Rattle.model.specs.change.Changes.{written_by, finished_by, received, request, mark_downloading_in, mark_as_downloading, mark_writing_in}
use Rattle.model.specs.change.Changes.{mark_as_writing, flush_done, finished_peer, mark_finished_in, mark_as_finished, freed, canceled}
use Rattle.model.specs.change.Changes.{free_block, cancel_in, mark_as_canceled, released, abort_in, abort_download}
use Rattle.model.specs.image.WellFormed.{peer_ok, block_ok}
use Rattle.model.specs.image.Sound.{Sound}
use Rattle.model.specs.Calls.{num_peers_full, no_partial_left}
use Rattle.model.proofs.base.Truths.{both_true, true_both}
use Rattle.model.proofs.base.Phases.{cond_arms}
use Rattle.model.proofs.sound.SoundBody.{sound_standing, within}
use Rattle.model.proofs.keep.KeepBlocks.{block_in, set_block_keeps, same_block_keeps}
use Rattle.model.proofs.keep.KeepClose.{erase_keeps, flush_done_keeps}
use Rattle.model.proofs.keep.KeepOpen.{Openable, mark_opening_keeps}
use Rattle.model.proofs.keep.KeepDirection.{make_piece_reverse_keeps, unreverse_piece_keeps}

-- ---- blocks in range
block_ok_lem : (q : BlockState) (n : ℕ) (peer : Option ℕ) → n ≤ max_peers → peer_ok peer ≡ true
    → block_ok (record { state = q; num_peers = n; peer = peer }) ≡ true
unfolding block_ok
block_ok_lem q n peer h p = true_both (leb n max_peers) (peer_ok peer) (le-leb n max_peers h) p

module _ (s : Picker) (i j : ℕ) (d : DownloadingPiece) (f : partial_of s i ≡ some d) (v : Sound s) where
  block_both : (leb (block_at d j).num_peers max_peers ≡ true) × (peer_ok (block_at d j).peer ≡ true)
  unfolding block_ok
  block_both = both_true (leb (block_at d j).num_peers max_peers) (peer_ok (block_at d j).peer) (block_in s i j d (v.partial i d f))

  few_num_peers : (block_at d j).num_peers ≤ max_peers
  few_num_peers = leb-true (block_at d j).num_peers max_peers block_both.0

  peer_right : peer_ok (block_at d j).peer ≡ true
  peer_right = block_both.1

same_state : (p q : BlockState) → same_block_state p q ≡ true → p ≡ q
unfolding same_block_state
same_state p q e = block_state_numbers.distinct p q (eqb-true (block_state_number p) (block_state_number q) e)

-- where no partial stands one may be opened
openable : (s : Picker) (i : ℕ) → i < pieces_in s → no_partial_left s i ≡ false → (piece_at s i).flushed ≡ false → partial_of s i ≡ none → Sound s
    → Openable i s
unfolding no_partial_left
openable s i h n a f v = record {
  here = h;
  not-flushed = a;
  vacant = f;
  room = leb-false max_partials (len s.partials) (rw (v.standing i f, a) at n);
}

module _ (ds : List ℕ) (i j : ℕ) (peer : Option ℕ) (w : Drawing) (v : Sound w.picker) where
  -- ---- asked for
  request_keeps : (d : DownloadingPiece) (back : Bool) → partial_of w.picker i ≡ some d → (block_at d j).num_peers < max_peers → peer_ok peer ≡ true
      → Sound (request ds i d j peer back w).picker
  unfolding request requested_by
  request_keeps d back f h p =
      let t = make_piece_reverse_keeps ds i d w (record { sound = v; found = f }) back in
      unreverse_piece_keeps ds i back (set_block ds i d j b (make_piece_reverse ds i back d w))
      (set_block_keeps ds i d j b (make_piece_reverse ds i back d w) t.found (block_ok_lem Requested (suc (block_at d j).num_peers) peer h p) t.sound)
    where
      b : Block
      b = requested_by peer (suc (block_at d j).num_peers)

  -- a block asked for, of a piece that is not had
  pub mark_as_downloading_keeps : (options : ℕ) → i < pieces_in w.picker → peer_ok peer ≡ true
      → ((d : DownloadingPiece) → partial_of w.picker i ≡ some d → num_peers_full (block_at d j) ≡ false)
      → (piece_at w.picker i).flushed ≡ false → no_partial_left w.picker i ≡ false
      → Sound (mark_as_downloading ds i j peer options w).after.picker
  unfolding mark_as_downloading mark_downloading_in saying num_peers_full requested_by is_open same_queue
  mark_as_downloading_keeps options h p r a n = go (partial_of w.picker i) refl
    where
      back : Bool
      back = reverse_asked options

      shut : (b : Bool) → is_open (cond b DownloadingReverse Downloading) ≡ false
      shut true = refl
      shut false = refl

      go : (o : Option DownloadingPiece) → partial_of w.picker i ≡ o → Sound (mark_downloading_in ds i o j peer options w).after.picker
      go none e =
          mark_opening_keeps ds i (cond back DownloadingReverse Downloading) (affinity_asked options) j (requested_by peer 1) w
          (shut back) (openable w.picker i h n a e v) (block_ok_lem Requested 1 peer (omega arith) p) v
      go (some d) e =
          cond_arms (λ c. Sound c.after.picker) (received (block_at d j)) (saying false w) (saying true (request ds i d j peer back w))
          (λ k. v) (λ k. request_keeps d back e (leb-false max_peers (block_at d j).num_peers (rw k at (r d e))) p)

  -- ---- received
  -- a block that keeps state and number of peers gets another peer
  handed_keeps : (d : DownloadingPiece) → partial_of w.picker i ≡ some d → peer_ok peer ≡ true
      → Sound (replace_block d j (with_peer peer (block_at d j)) w.picker)
  unfolding with_peer
  handed_keeps d f p =
      let old = block_at d j in
      same_block_keeps i d j (with_peer peer old) w.picker f (block_ok_lem old.state old.num_peers peer (few_num_peers w.picker i j d f v) p) refl v

  -- a block received; one that was before gets another peer
  pub mark_as_writing_keeps : i < pieces_in w.picker → peer_ok peer ≡ true → no_partial_left w.picker i ≡ false
      → Sound (mark_as_writing ds i j peer w).after.picker
  unfolding mark_as_writing mark_writing_in saying written_by is_open same_queue no_draw drawing
  mark_as_writing_keeps h p n = go (partial_of w.picker i) refl
    where
      b : Block
      b = written_by peer

      right : block_ok b ≡ true
      right = block_ok_lem Writing 0 peer (omega arith) p

      go : (o : Option DownloadingPiece) → partial_of w.picker i ≡ o → Sound (mark_writing_in ds i o j peer w).after.picker
      go none e =
          cond_arms (λ c. Sound c.after.picker) (piece_at w.picker i).flushed (saying false w) (mark_opening ds i Downloading false j b w)
          (λ k. v) (λ k. mark_opening_keeps ds i Downloading false j b w refl (openable w.picker i h n k e v) right v)
      go (some d) e =
          let old = block_at d j in
          cond_arms (λ c. Sound c.after.picker) (received old)
          (saying false (no_draw (replace_block d j (with_peer peer old)) w)) (saying true (set_block ds i d j b w))
          (λ k. handed_keeps d e p)
          (λ k. set_block_keeps ds i d j b w e right v)

  -- ---- on disk
  finished_peer_right : (d : DownloadingPiece) → partial_of w.picker i ≡ some d → peer_ok peer ≡ true → peer_ok (finished_peer peer (block_at d j)) ≡ true
  unfolding finished_peer
  finished_peer_right d f p =
      let old = block_at d j in
      cond_arms (λ x. peer_ok x ≡ true) (same_block_state old.state Writing && not (has_peer peer)) old.peer peer
      (λ g. peer_right w.picker i j d f v) (λ g. p)

  -- a block on disk; the piece may go with it
  pub mark_as_finished_keeps : i < pieces_in w.picker → peer_ok peer ≡ true → no_partial_left w.picker i ≡ false
      → Sound (mark_as_finished ds i j peer w).picker
  unfolding mark_as_finished mark_finished_in finished_by is_open same_queue no_draw drawing
  mark_as_finished_keeps h p n = go (partial_of w.picker i) refl
    where
      b : Block
      b = finished_by peer 0

      go : (o : Option DownloadingPiece) → partial_of w.picker i ≡ o → Sound (mark_finished_in ds i o j peer w).picker
      go none e =
          cond_arms (λ u. Sound u.picker) (piece_at w.picker i).flushed w (mark_opening ds i Downloading false j b w).after (λ k. v)
          (λ k. mark_opening_keeps ds i Downloading false j b w refl (openable w.picker i h n k e v) (block_ok_lem Finished 0 peer (omega arith) p) v)
      go (some d) e =
          let old = block_at d j in
          let c = finished_by (finished_peer peer old) old.num_peers in
          let right = block_ok_lem Finished old.num_peers (finished_peer peer old) (few_num_peers w.picker i j d e v) (finished_peer_right d e p) in
          cond_arms (λ u. Sound u.picker) (same_block_state old.state Finished) w (no_draw (flush_done i) (set_block ds i d j c w)) (λ k. v)
          (λ k. flush_done_keeps i (set_block ds i d j c w).picker (set_block_keeps ds i d j c w e right v))

  -- ---- given back
  -- a requester less
  released_keeps : (d : DownloadingPiece) → partial_of w.picker i ≡ some d → (block_at d j).state ≡ Requested
      → Sound (replace_block d j (released peer (block_at d j)) w.picker)
  unfolding released peer_ok
  released_keeps d f q =
      let old = block_at d j in
      same_block_keeps i d j (released peer old) w.picker f
      (block_ok_lem Requested (old.num_peers - 1) (cond (same_peer old.peer peer) none old.peer)
      (omega (arith, few_num_peers w.picker i j d f v))
      (cond_arms (λ x. peer_ok x ≡ true) (same_peer old.peer peer) none old.peer (λ g. refl) (λ g. peer_right w.picker i j d f v)))
      (sym q) v

  -- the block is free, or the partial goes with its last block at work
  free_block_keeps : (d : DownloadingPiece) (b : Block) → partial_of w.picker i ≡ some d → block_ok b ≡ true → Sound (free_block ds i d j b w).picker
  unfolding free_block
  free_block_keeps d b f o =
      cond_arms (λ u. Sound u.picker) (eqb (progress d) 1 && not d.hashing) (erase_and_update ds i w) (set_block ds i d j b w)
      (λ g. erase_keeps ds i w (within w.picker i (sound_standing w.picker i d v f)) v)
      (λ g. set_block_keeps ds i d j b w f o v)

  -- a block canceled: given back, or handed to another peer
  pub mark_as_canceled_keeps : peer_ok peer ≡ true → Sound (mark_as_canceled ds i j peer w).picker
  unfolding mark_as_canceled cancel_in canceled no_draw drawing
  mark_as_canceled_keeps p = go (partial_of w.picker i) refl
    where
      go : (o : Option DownloadingPiece) → partial_of w.picker i ≡ o → Sound (cancel_in ds i o j peer w).picker
      go none e = v
      go (some d) e =
          let old = block_at d j in
          let free = free_block ds i d j (canceled peer old) w in
          let handed = no_draw (replace_block d j (with_peer peer old)) w in
          let written = same_block_state old.state Writing in
          cond_arms (λ u. Sound u.picker) (same_block_state old.state Finished) w (cond written free handed) (λ k. v)
          (λ k. cond_arms (λ u. Sound u.picker) written free handed
          (λ m. free_block_keeps d (canceled peer old) e (block_ok_lem None old.num_peers peer (few_num_peers w.picker i j d e v) p))
          (λ m. handed_keeps d e p))

  -- a block given back by a peer
  pub abort_download_keeps : Sound (abort_download ds i j peer w).picker
  unfolding abort_download abort_in freed peer_ok no_draw drawing
  abort_download_keeps = go (partial_of w.picker i) refl
    where
      go : (o : Option DownloadingPiece) → partial_of w.picker i ≡ o → Sound (abort_in ds i o j peer w).picker
      go none e = v
      go (some d) e =
          let old = block_at d j in
          let less = no_draw (replace_block d j (released peer old)) w in
          let free = free_block ds i d j freed w in
          let asked = same_block_state old.state Requested in
          cond_arms (λ u. Sound u.picker) (not asked) w (cond (ltb 1 old.num_peers) less free) (λ k. v)
          (λ k. cond_arms (λ u. Sound u.picker) (ltb 1 old.num_peers) less free
          (λ m. released_keeps d e (same_state old.state Requested (not-false asked k))) (λ m. free_block_keeps d freed e (block_ok_lem None 0 none (omega arith) refl)))
