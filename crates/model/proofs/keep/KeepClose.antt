-- A partial closed: given up, or its piece on disk.
use mathlib.Core.Path.{◌≡◌, refl, sym, ap, ◌∙◌}
use Prim.Native.Nat.{ℕ, ◌+◌, ◌≤◌, ◌<◌}
use native.Mathlib.Decide.{ℕ_discrete}
use native.Mathlib.Omega.{arith}
use mathlib.Core.Bool.{Bool, true, false, not, ◌&&◌, ◌||◌, or-true, and-false}
use mathlib.Core.List.{List, [], ◌∷◌}
use mathlib.Core.Option.{Option, none, some}
use lib.Dec.{eqb}
use borrow.Author.Tests.{leb-true, le-ltb, ne_eqb}
use Rattle.types.specs.declared.queue.DownloadQueue.{DownloadQueue}
use Rattle.types.specs.declared.queue.DownloadQueue.TheVariants.{Downloading, Full, Finished as FinishedQueue, ZeroPrio, Open}
use Rattle.types.specs.declared.queue.DownloadQueue.TheVariants.{DownloadingReverse, FullReverse}
use Rattle.types.specs.Queue.{unreverse}
use Rattle.types.specs.declared.block.BlockState.{BlockState}
use Rattle.types.specs.declared.block.BlockState.TheVariants.{None, Requested, Writing, Finished}
use Rattle.model.specs.Lists.{bit, count, filter, len, when}
use Rattle.model.specs.State.{Piece, Block, DownloadingPiece, Picker, is_open, same_queue, same_block_state, with_state, with_flushed}
use Rattle.model.specs.State.{with_flags, with_piece, with_pieces, with_partials, piece_at, pieces_in, blocks_in_piece}
use Rattle.model.specs.list.Order.{Drawing, unlisted, bucket, rank_of, rank}
use Rattle.model.specs.change.Partials.{partial_of, blocks_in_state, progress, new_state, replace_partial, drop_partial, erase_download_piece}
use Rattle.model.specs.change.Partials.{erase_and_update}
use Rattle.model.specs.change.Changes.{piece_flushed, all_finished, flush_if, flush_done, pass_in, piece_passed}
use Rattle.model.specs.image.WellFormed.{state_ok}
use Rattle.model.specs.image.Sound.{Sound}
use Rattle.model.proofs.base.Truths.{both_true}
use Rattle.model.proofs.base.Phases.{when_arms, unless_arms}
use Rattle.model.proofs.base.Counts.{bit_le}
use Rattle.model.proofs.list.RankLaws.{rank_same, rank_other, rank_changed, pieces_in-with_piece, piece_at_same}
use Rattle.model.proofs.sound.PieceLaws.{piece_at_kept}
use Rattle.model.proofs.sound.PartialLaws.{another, find_dl_piece_drop_same, find_dl_piece_drop_other, size_filter_le, from_filter}
use Rattle.model.proofs.list.ListingLaws.{ok_same}
use Rattle.model.proofs.sound.SoundBody.{Frame, At, free, Body, PieceIn, piece_in, in_piece, sound_body, body_sound, sound_standing}
use Rattle.model.proofs.sound.SoundBody.{within, some_block}
use Rattle.model.proofs.sound.SoundFields.{Alone, frame_partials, frame_piece, at_partials, at_piece, at_counts, moved_sound}
use Rattle.model.proofs.keep.KeepCursors.{advance_cursors_keeps}
use Rattle.model.proofs.keep.KeepState.{state_in}
use Rattle.model.proofs.keep.KeepBlocks.{flags_keep}

-- ---- the partial gone and its piece Open
erase_download_piece_open : (i : ℕ) (s : Picker) → i < pieces_in s → is_open (piece_at (erase_download_piece i s) i).state ≡ true
unfolding erase_download_piece drop_partial with_partials pieces_in is_open same_queue with_state
erase_download_piece_open i s h = ap (λ (p : Piece). is_open p.state) (piece_at_same i (with_state Open) (drop_partial i s) h)

erase_download_piece_body : (i : ℕ) (s : Picker) → i < pieces_in s → Body s → Body (erase_download_piece i s)
unfolding erase_download_piece drop_partial with_partials with_piece with_pieces pieces_in partial_of is_open same_queue
erase_download_piece_body i s h b = record {
  frame = frame_piece t frame i (with_state Open) h (state_in t i (piece_at t i) Open (frame.piece i h) (or-true (not (piece_at t i).flushed)));
  all = all;
}
  where
    t : Picker
    t = drop_partial i s

    es : List DownloadingPiece
    es = filter (another i) s.partials

    frame : Frame t
    frame = frame_partials s b.frame es (from_filter (another i) 0 s.partials b.frame.rising)
        (omega (arith, size_filter_le (another i) s.partials, b.frame.few))

    all : (k : ℕ) → At (erase_download_piece i s) k
    all k = elim (ℕ_discrete k i) [
      | yes e ↦ rw e (free (erase_download_piece_open i s h) (find_dl_piece_drop_same i s.partials))
      | no n ↦ at_piece t k (at_partials s k (b.all k) es (find_dl_piece_drop_other i k s.partials n)) i (with_state Open) n
    ]

pub erase_download_piece_alone : (i : ℕ) (s : Picker) → Alone i s (erase_download_piece i s)
unfolding erase_download_piece drop_partial with_partials with_piece with_pieces pieces_in
erase_download_piece_alone i s = record {
  listing = refl;
  many = pieces_in-with_piece i (with_state Open) (drop_partial i s);
  ranks = λ k n. rank_other i (with_state Open) (drop_partial i s) k n ∙ rank_same s (drop_partial i s) refl refl k;
}

-- a partial closed, and the list mended
pub erase_keeps : (ds : List ℕ) (i : ℕ) (w : Drawing) → i < pieces_in w.picker → Sound w.picker → Sound (erase_and_update ds i w).picker
unfolding erase_and_update
erase_keeps ds i w h v =
    moved_sound ds i (erase_download_piece i) w (erase_download_piece_alone i w.picker) v.list (erase_download_piece_body i w.picker h (sound_body w.picker v))

-- ---- a piece on disk
-- a had piece has no bucket
pub flushed_rank : (n : ℕ) (p : Piece) → p.flushed ≡ true → rank_of (bucket n p) ≡ 0
unfolding bucket unlisted rank_of
flushed_rank n p e = rw (e, or-true (eqb p.priority 0)) refl

-- an Open piece becomes had
flushed_body : (i : ℕ) (s : Picker) → i < pieces_in s → is_open (piece_at s i).state ≡ true → Body s → Body (with_piece i with_flushed s)
unfolding with_piece with_pieces partial_of blocks_in_piece with_flushed
flushed_body i s h o b = record { frame = frame_piece s b.frame i with_flushed h (in_piece s i (with_flushed (piece_at s i)) in_range_lem); all = all }
  where
    r : PieceIn s i (piece_at s i)
    r = piece_in s i (piece_at s i) (b.frame.piece i h)

    in_range_lem : PieceIn s i (with_flushed (piece_at s i))
    in_range_lem = record { peers = r.peers; priority = r.priority; flushed = o; pad_bytes = r.pad_bytes }

    all : (k : ℕ) → At (with_piece i with_flushed s) k
    all k =
        at_counts s k (b.all k) (with_piece i with_flushed s) (piece_at_kept (λ p. p.state) with_flushed (λ p. refl) s i k)
        (piece_at_kept (λ p. p.priority) with_flushed (λ p. refl) s i k) refl refl

-- a piece without a bucket becomes had, and its partial goes
pub piece_flushed_keeps : (i : ℕ) (s : Picker) → i < pieces_in s → rank s i ≡ 0 → Sound s → Sound (piece_flushed i s)
unfolding piece_flushed with_piece with_pieces with_flushed erase_download_piece drop_partial with_partials
piece_flushed_keeps i s h r v =
    advance_cursors_keeps i u (rw many h)
    (body_sound u (flushed_body i e (rw a.many h) (erase_download_piece_open i s h) b) (ok_same s u refl many ranks v.list))
  where
    e : Picker
    e = erase_download_piece i s

    u : Picker
    u = with_piece i with_flushed e

    b : Body e
    b = erase_download_piece_body i s h (sound_body s v)

    a : Alone i s e
    a = erase_download_piece_alone i s

    many : pieces_in u ≡ pieces_in s
    many = pieces_in-with_piece i with_flushed e ∙ a.many

    ranks : (y : ℕ) → y < pieces_in s → rank u y ≡ rank s y
    ranks y k = elim (ℕ_discrete y i) [
      | yes q ↦ rw q (rank_changed i with_flushed e (rw a.many h) ∙ flushed_rank s.seeds (with_flushed (piece_at e i)) refl ∙ sym r)
      | no n ↦ rank_other i with_flushed e y n ∙ a.ranks y n
    ]

-- ---- all blocks on disk
-- a block is in one state
one_state : (q k : BlockState) → same_block_state Finished k ≡ false → bit (same_block_state q k) + bit (same_block_state q Finished) ≤ 1
unfolding same_block_state
one_state None k e = omega (arith, bit_le (same_block_state None k))
one_state Requested k e = omega (arith, bit_le (same_block_state Requested k))
one_state Writing k e = omega (arith, bit_le (same_block_state Writing k))
one_state Finished k e = rw e (omega arith)

apart : (k : BlockState) → same_block_state Finished k ≡ false → (l : List Block)
    → count (λ b. same_block_state b.state k) l + count (λ b. same_block_state b.state Finished) l ≤ len l
unfolding count len
apart k e [] = omega arith
apart k e (b ∷ bs) = omega (arith, one_state b.state k e, apart k e bs)

finished_plain : (q : DownloadQueue) → same_queue (unreverse q) FinishedQueue ≡ true → same_queue q FinishedQueue ≡ true
unfolding same_queue
finished_plain Downloading h = h
finished_plain Full h = h
finished_plain FinishedQueue h = h
finished_plain ZeroPrio h = h
finished_plain Open h = h
finished_plain DownloadingReverse h = h
finished_plain FullReverse h = h

module _ (d : DownloadingPiece) (full : len d.blocks ≤ blocks_in_state Finished d) (some : 1 ≤ len d.blocks) where
  none_free : blocks_in_state None d ≡ 0
  unfolding blocks_in_state same_block_state
  none_free = omega (arith, apart None refl d.blocks)

  none_asked : blocks_in_state Requested d ≡ 0
  unfolding blocks_in_state same_block_state
  none_asked = omega (arith, apart Requested refl d.blocks)

  all_at_work : progress d ≡ len d.blocks
  unfolding progress
  all_at_work = omega (arith, none_free)

  -- a wished piece is Finished
  due_finished : (priority : ℕ) → eqb priority 0 ≡ false → new_state d priority Open ≡ FinishedQueue
  unfolding new_state
  due_finished priority e = rw (
    e,
    ne_eqb (progress d + bit d.hashing) 0 (λ (z : progress d + bit d.hashing ≡ 0). absurd (omega (arith, all_at_work))),
    le-ltb (progress d) (len d.blocks) (omega (arith, all_at_work)),
    le-ltb 0 (blocks_in_state Requested d) (omega (arith, none_asked)),
  )

  -- so it has no bucket
  right_unlisted : (n : ℕ) (p : Piece) → state_ok p d ≡ true → unlisted n p ≡ true
  unfolding state_ok unlisted
  right_unlisted n p o = go (eqb p.priority 0) refl
    where
      busy : eqb (progress d) 0 ≡ false
      busy = ne_eqb (progress d) 0 (λ (z : progress d ≡ 0). absurd (omega (arith, all_at_work)))

      state : same_queue (unreverse p.state) (new_state d p.priority Open) ≡ true
      state = rw (busy, and-false) at o

      go : (b : Bool) → eqb p.priority 0 ≡ b
          → (b || (p.flushed || (eqb (p.peer_count + n) 0 || (same_queue p.state Full || same_queue p.state FinishedQueue)))) ≡ true
      go true e = refl
      go false e = simp (finished_plain p.state (rw (due_finished p.priority e) at state), or-true)

-- a piece all of whose blocks are on disk has no bucket
pub finished_rank : (s : Picker) (i : ℕ) (d : DownloadingPiece) → Sound s → partial_of s i ≡ some d → all_finished s d ≡ true → rank s i ≡ 0
unfolding rank bucket rank_of all_finished
finished_rank s i d v f e =
    let g = v.partial i d f in
    let full = leb-true (blocks_in_piece s d.piece) (blocks_in_state Finished d) e in
    let some = some_block s i (sound_body s v).frame (within s i (sound_standing s i d v f)) in
    let size_le = ap (blocks_in_piece s) g.piece in
    rw (right_unlisted d (omega (arith, g.blocks)) (omega (arith, g.blocks)) s.seeds (piece_at s i) g.state) refl

flush_keeps : (s : Picker) (i : ℕ) (d : DownloadingPiece) → partial_of s i ≡ some d → all_finished s d ≡ true → Sound s → Sound (piece_flushed i s)
flush_keeps s i d f e v = piece_flushed_keeps i s (within s i (sound_standing s i d v f)) (finished_rank s i d v f e) v

-- a passed piece goes once all its blocks are on disk
pub flush_done_keeps : (i : ℕ) (s : Picker) → Sound s → Sound (flush_done i s)
unfolding flush_done flush_if
flush_done_keeps i s v = go (partial_of s i) refl
  where
    go : (o : Option DownloadingPiece) → partial_of s i ≡ o → Sound (flush_if i o s)
    go none e = v
    go (some d) e =
        let ready = d.passed_hash_check && (not d.hashing && not d.locked) in
        when_arms Sound (all_finished s d && ready) (piece_flushed i) s
        (λ h. flush_keeps s i d e (both_true (all_finished s d) ready h).0 v) (λ h. v)

-- a piece passed, which goes if all its blocks are on disk
pub piece_passed_keeps : (i : ℕ) (s : Picker) → Sound s → Sound (piece_passed i s)
unfolding piece_passed pass_in replace_partial with_partials pieces_in rank piece_at
piece_passed_keeps i s v = go (partial_of s i) refl
  where
    go : (o : Option DownloadingPiece) → partial_of s i ≡ o → Sound (pass_in i o s)
    go none e = v
    go (some d) e =
        let t = replace_partial (with_flags true false d) s in
        let g = flags_keep s i d true false e v in
        unless_arms Sound d.locked (λ u. when (all_finished u d) (piece_flushed i) (replace_partial (with_flags true false d) u)) s
        (λ h. when_arms Sound (all_finished s d) (piece_flushed i) t
        (λ a. piece_flushed_keeps i t (within s i (sound_standing s i d v e)) (finished_rank s i d v e a) g) (λ a. g))
        (λ h. v)
