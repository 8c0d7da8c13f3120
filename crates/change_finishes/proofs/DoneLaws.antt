-- A block of a standing partial on disk, in the picker: the partial after it, that it is well-formed, and whether it goes. Assumes nothing.
use mathlib.Core.Path.{◌≡◌, refl, sym, ap, ◌∙◌}
use mathlib.Core.Bool.{Bool, true, false, not, ◌&&◌}
use mathlib.Core.Option.{Option, some}
use Prim.Native.Nat.{ℕ, ◌+◌, ◌^◌, ◌<◌}
use native.Mathlib.Omega.{arith}
use lib.Dec.{leb}
use borrow.Author.Tests.{lt-ltb}
use Rattle.types.specs.declared.block.BlockState.TheVariants.{Writing, Finished}
use Rattle.types.specs.Peer.{named_peer}
use Rattle.model.specs.Lists.{bit, len, when}
use Rattle.model.specs.State.{Block, DownloadingPiece, Picker, no_block, max_peers, same_block_state, has_peer, with_blocks, with_partials}
use Rattle.model.specs.list.Order.{Draws, drawing, no_draw, rank}
use Rattle.model.specs.change.Partials.{find_dl_piece, partial_of, block_at, blocks_in_state, replace_in, replace_partial, replace_block}
use Rattle.model.specs.change.Changes.{set_block, finished_by, finished_peer, all_finished, flush_if, flush_done, piece_flushed}
use Rattle.model.specs.image.WellFormed.{peer_ok, block_ok}
use Rattle.model.specs.image.Sound.{Sound}
use Rattle.model.proofs.base.Phases.{cond_arms}
use Rattle.model.proofs.base.Truths.{both_true, true_both}
use Rattle.model.proofs.keep.KeepBlocks.{block_in, set_block_keeps}
use Rattle.model.proofs.keep.KeepClose.{finished_rank}
use Rattle.model.proofs.sound.PartialLaws.{find_dl_piece-piece, partial_of_put_same, size_put}
use Rattle.change_state.proofs.KeptLaws.{update_same}
use Rattle.change_blocks.specs.Replacing.{with_block_at}
use Rattle.change_blocks.proofs.TallyLaws.{count-set}

-- ---- the block
pub peer_fits_lem : (has : Bool) (peer : ℕ) → peer < 18446744073709551616 → peer_ok (named_peer has peer) ≡ true
unfolding peer_ok
peer_fits_lem true peer h = lt-ltb peer (2 ^ 64) h
peer_fits_lem false peer h = refl

finished_ok : (peer : Option ℕ) (y : Block) → peer_ok peer ≡ true → block_ok y ≡ true
    → block_ok (finished_by (finished_peer peer y) y.num_peers) ≡ true
unfolding block_ok finished_by finished_peer
finished_ok peer y p h =
    let r = both_true (leb y.num_peers max_peers) (peer_ok y.peer) h in
    true_both (leb y.num_peers max_peers) _ r.0
    (cond_arms (λ z. peer_ok z ≡ true) (same_block_state y.state Writing && not (has_peer peer)) y.peer peer (λ e. r.1) (λ e. p))

-- one more is on disk
pub one_finished : (q : DownloadingPiece) (j : ℕ) (b : Block) → j < len q.blocks → same_block_state (block_at q j).state Finished ≡ false
    → same_block_state b.state Finished ≡ true → blocks_in_state Finished (with_block_at j b q) ≡ blocks_in_state Finished q + 1
unfolding blocks_in_state with_block_at with_blocks block_at
one_finished q j b h e f =
    let c = count-set (λ (x : Block). same_block_state x.state Finished) no_block q.blocks j b h in
    let m = ap bit e in
    let n = ap bit f in
    omega (arith, c, m, n)

-- ---- the picker after it
module _ (draws : Draws) (i : ℕ) (d : Picker) (q : DownloadingPiece) (j : ℕ) (b : Block) (used : ℕ) (f : partial_of d i ≡ some q) where
  -- the partials
  pub set_partials_are : (set_block draws i q j b (drawing used d)).picker.partials ≡ replace_in (with_block_at j b q) d.partials
  unfolding set_block no_draw drawing replace_block replace_partial with_partials with_block_at
  set_partials_are = (update_same draws i (no_draw (replace_block q j b) (drawing used d))).partials

  pub set_many : len (set_block draws i q j b (drawing used d)).picker.partials ≡ len d.partials
  set_many = ap len set_partials_are ∙ size_put (with_block_at j b q) d.partials

  -- the partial
  pub set_found : partial_of (set_block draws i q j b (drawing used d)).picker i ≡ some (with_block_at j b q)
  unfolding partial_of replace_partial with_partials with_block_at with_blocks
  set_found =
      ap (find_dl_piece i) set_partials_are
      ∙ partial_of_put_same d i (with_block_at j b q) q (find_dl_piece-piece i d.partials q f) f

module _ (draws : Draws) (i : ℕ) (d : Picker) (q : DownloadingPiece) (j : ℕ) (used : ℕ) (f : partial_of d i ≡ some q) (v : Sound d)
    (peer : Option ℕ) (p : peer_ok peer ≡ true) where
  abbrev c : Block
  c = finished_by (finished_peer peer (block_at q j)) (block_at q j).num_peers

  pub set_sound : Sound
      (set_block draws i q j (finished_by (finished_peer peer (block_at q j)) (block_at q j).num_peers) (drawing used d)).picker
  unfolding drawing
  set_sound =
      set_block_keeps draws i q j c (drawing used d) f (finished_ok peer (block_at q j) p (block_in d i j q (v.partial i q f))) v

-- ---- whether it goes
pub flush_is : (i : ℕ) (s : Picker) (q : DownloadingPiece) (done : Bool) → partial_of s i ≡ some q
    → done ≡ (all_finished s q && (q.passed_hash_check && (not q.hashing && not q.locked)))
    → flush_done i s ≡ when done (piece_flushed i) s
unfolding flush_done flush_if
flush_is i s q done f e = rw (f, ← e) refl

pub flush_rank : (i : ℕ) (s : Picker) (q : DownloadingPiece) → Sound s → partial_of s i ≡ some q
    → true ≡ (all_finished s q && (q.passed_hash_check && (not q.hashing && not q.locked))) → rank s i ≡ 0
flush_rank i s q v f e = finished_rank s i q v f (both_true (all_finished s q) _ (sym e)).0
