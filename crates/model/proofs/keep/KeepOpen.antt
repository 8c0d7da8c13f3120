-- An Open piece becomes a partial.
use mathlib.Core.Path.{◌≡◌, refl, sym, ◌∙◌}
use mathlib.Core.Logic.{◌≢◌}
use Prim.Native.Nat.{ℕ, ◌<◌}
use native.Mathlib.Omega.{arith}
use mathlib.Core.Bool.{Bool, true, false}
use mathlib.Core.List.{List, [], ◌∷◌}
use mathlib.Core.Option.{Option, none, some}
use Rattle.types.specs.declared.queue.DownloadQueue.{DownloadQueue}
use Rattle.types.specs.declared.block.BlockState.TheVariants.{Finished}
use Rattle.model.specs.Lists.{every, each, from, len, when}
use Rattle.model.specs.State.{Block, DownloadingPiece, Picker, Listing, max_partials, is_open, same_block_state, with_state, with_listing}
use Rattle.model.specs.State.{with_recent_extents, with_piece, with_pieces, with_partials, piece_at, pieces_in, blocks_in_piece}
use Rattle.model.specs.State.{payload_blocks_in_piece}
use Rattle.model.specs.list.Order.{Drawing, drawing, no_draw}
use Rattle.model.specs.change.Partials.{partial_of, block_at, set_state, fresh_block, fresh_partial, insert_in, add_partial}
use Rattle.model.specs.change.Partials.{add_download_piece}
use Rattle.model.specs.change.Changes.{saying, record_downloading_piece, opened, set_block, mark_first, mark_opening}
use Rattle.model.specs.image.WellFormed.{peer_ok, block_ok}
use Rattle.model.specs.list.Listed.{ListingOk}
use Rattle.model.specs.image.Sound.{Sound}
use Rattle.model.proofs.base.Truths.{true_both}
use Rattle.model.proofs.base.Phases.{cond_arms, when_arms}
use Rattle.model.proofs.base.Counts.{length-from}
use Rattle.model.proofs.list.RankLaws.{piece_at_same}
use Rattle.model.proofs.sound.PieceLaws.{size_each}
use Rattle.model.proofs.sound.PartialLaws.{find_dl_piece_insert_same, find_dl_piece_insert_other, size_insert, from_insert}
use Rattle.model.proofs.sound.SoundBody.{Frame, At, BodyBut, Fits, sound_body, within}
use Rattle.model.proofs.sound.SoundFields.{frame_listing, frame_partials, frame_piece, at_listing, at_extents, at_partials, at_piece}
use Rattle.model.proofs.sound.SoundFields.{alone_piece, moved_blind, moved_listed}
use Rattle.model.proofs.keep.KeepExtents.{record_blind, record_downloading_piece_frame, record_listed}
use Rattle.model.proofs.keep.KeepState.{state_in, update_keeps}
use Rattle.model.proofs.keep.KeepBlocks.{partials_listed, set_block_keeps}

-- piece i is not Open any more and has no partial yet, for which there is room; all else but the list is right
record Opening (i : ℕ) (s : Picker) : Type 0 where
  frame : Frame s
  others : (k : ℕ) → k ≢ i → At s k
  shut : is_open (piece_at s i).state ≡ false
  vacant : partial_of s i ≡ none
  room : len s.partials < max_partials

opening_listing : (i : ℕ) (l : Listing) (s : Picker) → Opening i s → Opening i (with_listing l s)
unfolding with_listing piece_at partial_of
opening_listing i l s o = record {
  frame = frame_listing s o.frame l;
  others = λ k n. at_listing s k (o.others k n) l;
  shut = o.shut;
  vacant = o.vacant;
  room = o.room;
}

-- what opening piece i asks for: it is one of the picker's, not had, without a partial, and there is room for one
pub record Openable (i : ℕ) (s : Picker) : Type 0 where
  pub here : i < pieces_in s
  pub not-flushed : (piece_at s i).flushed ≡ false
  pub vacant : partial_of s i ≡ none
  pub room : len s.partials < max_partials

-- the state put in
opening_state : (i : ℕ) (q : DownloadQueue) (s : Picker) → is_open q ≡ false → Openable i s → Sound s
    → Opening i (with_piece i (with_state q) s)
unfolding with_piece with_pieces partial_of with_state
opening_state i q s o a v = record {
  frame = frame_piece s (sound_body s v).frame i (with_state q) a.here
      (state_in s i (piece_at s i) q (v.piece i a.here) (rw a.not-flushed));
  others = λ k m. at_piece s k ((sound_body s v).all k) i (with_state q) m;
  shut = rw (piece_at_same i (with_state q) s a.here) o;
  vacant = a.vacant;
  room = a.room;
}

-- the extent recorded
opening_record : (i : ℕ) (s : Picker) → i < pieces_in s → Opening i s → Opening i (record_downloading_piece i s)
unfolding with_recent_extents partial_of piece_at
opening_record i s h o = record {
  frame = record_downloading_piece_frame i s h o.frame;
  others = λ k n. record_blind (λ t. At t k) (λ es t a. at_extents t k a es) i s (o.others k n);
  shut = record_blind (λ t. is_open (piece_at t i).state ≡ false) (λ es t a. a) i s o.shut;
  vacant = record_blind (λ t. partial_of t i ≡ none) (λ es t a. a) i s o.vacant;
  room = record_blind (λ t. len t.partials < max_partials) (λ es t a. a) i s o.room;
}

-- ---- the partial added
every-each : (t : Block → Bool) (f : ℕ → Block) → ((j : ℕ) → t (f j) ≡ true) → (l : List ℕ) → every t (each f l) ≡ true
unfolding every each
every-each t f h [] = refl
every-each t f h (x ∷ xs) = true_both (t (f x)) (every t (each f xs)) (h x) (every-each t f h xs)

fresh_fits : (i : ℕ) (s : Picker) → Fits (blocks_in_piece s i) i (fresh_partial s i)
unfolding fresh_partial fresh_block block_ok peer_ok len
fresh_fits i s = record {
  piece = refl;
  blocks = size_each (fresh_block (payload_blocks_in_piece s i)) (from 0 (blocks_in_piece s i)) ∙ length-from 0 (blocks_in_piece s i);
  each = every-each block_ok (fresh_block (payload_blocks_in_piece s i)) (λ j. refl) (from 0 (blocks_in_piece s i));
}

opening_add : (i : ℕ) (s : Picker) → Opening i s → BodyBut i (fresh_partial s i) (add_partial i s)
unfolding add_partial with_partials partial_of piece_at blocks_in_piece fresh_partial
opening_add i s o = record {
  frame = frame_partials s o.frame es (from_insert 0 d s.partials (omega arith) o.vacant o.frame.rising)
      (omega (arith, size_insert d s.partials, o.room));
  others = λ k n. at_partials s k (o.others k n) es (find_dl_piece_insert_other k d s.partials (λ (e : i ≡ k). n (sym e)));
  standing = o.shut;
  found = find_dl_piece_insert_same i d s.partials f.piece o.vacant;
  fits = f;
}
  where
    d : DownloadingPiece
    d = fresh_partial s i

    es : List DownloadingPiece
    es = insert_in d s.partials

    f : Fits (blocks_in_piece s i) i d
    f = fresh_fits i s

-- ---- opened
-- its partial stands, in the right state
pub opened_keeps : (ds : List ℕ) (i : ℕ) (q : DownloadQueue) (affinity : Bool) (w : Drawing)
    → is_open q ≡ false → Openable i w.picker → Sound w.picker → Sound (opened ds i q affinity w).picker
unfolding opened add_download_piece add_partial set_state no_draw drawing
opened_keeps ds i q affinity w o a v =
    let r = recorded in
    update_keeps ds i (fresh_partial w₂.picker i) (no_draw (add_partial i) w₂) (opening_add i w₂.picker r.0)
    (partials_listed (insert_in (fresh_partial w₂.picker i) w₂.picker.partials) w₂.picker r.1)
  where
    w₁ : Drawing
    w₁ = set_state ds i q w

    opening : Opening i w₁.picker
    opening = moved_blind (Opening i) (opening_listing i) ds i (with_piece i (with_state q)) w (opening_state i q w.picker o a v)

    listed : ListingOk w₁.picker
    listed = moved_listed ds i (with_piece i (with_state q)) w (alone_piece i (with_state q) w.picker) v.list

    w₂ : Drawing
    w₂ = when affinity (no_draw (record_downloading_piece i)) w₁

    recorded : Opening i w₂.picker × ListingOk w₂.picker
    recorded =
        when_arms (λ u. Opening i u.picker × ListingOk u.picker) affinity (no_draw (record_downloading_piece i)) w₁
        (λ e. (opening_record i w₁.picker (within w₁.picker i opening.shut) opening, record_listed i w₁.picker listed))
        (λ e. (opening, listed))

-- opened, and its first block marked unless its pad bytes finished it
pub mark_opening_keeps : (ds : List ℕ) (i : ℕ) (q : DownloadQueue) (affinity : Bool) (j : ℕ) (b : Block) (w : Drawing)
    → is_open q ≡ false → Openable i w.picker → block_ok b ≡ true → Sound w.picker
    → Sound (mark_opening ds i q affinity j b w).after.picker
unfolding mark_opening mark_first saying
mark_opening_keeps ds i q affinity j b w o a g v = go (partial_of u.picker i) refl
  where
    u : Drawing
    u = opened ds i q affinity w

    k : Sound u.picker
    k = opened_keeps ds i q affinity w o a v

    go : (p : Option DownloadingPiece) → partial_of u.picker i ≡ p → Sound (mark_first ds i p j b u).after.picker
    go none e = k
    go (some d) e =
        cond_arms (λ c. Sound c.after.picker) (same_block_state (block_at d j).state Finished)
        (saying false u) (saying true (set_block ds i d j b u)) (λ h. k) (λ h. set_block_keeps ds i d j b u e g k)
