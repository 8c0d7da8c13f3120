-- The parts of a well-formed picker after one field was replaced, and after the list was mended.
use mathlib.Core.Path.{◌≡◌, refl, ◌∙◌}
use mathlib.Core.Logic.{◌≢◌}
use Prim.Native.Nat.{ℕ, ◌≤◌, ◌<◌}
use native.Mathlib.Decide.{ℕ_discrete}
use native.Mathlib.Omega.{arith}
use mathlib.Core.Bool.{true}
use mathlib.Core.List.{List, [], ◌∷◌, ◌++◌}
use Rattle.model.specs.Lists.{len, nth, set_nth}
use Rattle.model.specs.State.{Piece, DownloadingPiece, Picker, Listing, dirty, fresh, max_peers, max_partials, no_piece, with_seeds}
use Rattle.model.specs.State.{with_listing, with_piece, with_pieces, with_partials, with_cursors, with_recent_extents, mark_dirty, piece_at}
use Rattle.model.specs.State.{pieces_in, piece_size_at, blocks_per_piece, blocks_in_piece}
use Rattle.model.specs.list.Order.{Drawing, drawing, no_draw, rank, updated, update_in, update, change_and_update}
use Rattle.model.specs.change.Partials.{find_dl_piece, partial_of}
use Rattle.model.specs.image.WellFormed.{head_ok, piece_ok, state_ok, extent_ok, extents_ok}
use Rattle.model.specs.list.Listed.{ListingOk}
use Rattle.model.specs.image.Sound.{partials_from, Sound}
use Rattle.model.proofs.list.RankLaws.{rank_other, pieces_in-with_piece, piece_at_same, piece_at_other}
use Rattle.model.proofs.list.ListingLaws.{moved_keeps, mark_dirty_ok}
use Rattle.model.proofs.sound.SoundBody.{Frame, At, free, taken, Body, BodyBut, HeadIn, body_sound, partial_fits, fits_partial}
use Rattle.model.proofs.sound.SoundBody.{head_in, in_head}

-- ---- the same pieces and partials
at_same : (s s' : Picker) (i : ℕ) → piece_at s' i ≡ piece_at s i → partial_of s' i ≡ partial_of s i → blocks_in_piece s' i ≡ blocks_in_piece s i → At s i → At s' i
at_same s s' i p q b (free o n) = free (rw p o) (q ∙ n)
at_same s s' i p q b (taken d o n g) = taken d (rw p o) (q ∙ n) (fits_partial s' i d (rw b (partial_fits s i d g)) (rw p g.state))

extents_same : (s s' : Picker) → pieces_in s' ≡ pieces_in s → blocks_per_piece s' ≡ blocks_per_piece s → (before es : List ℕ)
    → extents_ok s' before es ≡ extents_ok s before es
unfolding extents_ok extent_ok
extents_same s s' n b before [] = refl
extents_same s s' n b before (e ∷ es) = rw (n, b, extents_same s s' n b (before ++ (e ∷ [])) es)

-- ---- what holds of the whole, with one field replaced
module _ (s : Picker) (f : Frame s) where
  -- another list
  pub frame_listing : (l : Listing) → Frame (with_listing l s)
  unfolding with_listing head_ok pieces_in piece_ok piece_size_at piece_at blocks_per_piece
  frame_listing l = record {
    head = f.head;
    many = f.many;
    piece = f.piece;
    rising = f.rising;
    few = f.few;
    recent_extents = extents_same s (with_listing l s) refl refl [] s.recent_extents ∙ f.recent_extents;
  }

  -- other partials, by rising piece and not too many
  pub frame_partials : (ds : List DownloadingPiece) → partials_from 0 ds ≡ true → len ds ≤ max_partials → Frame (with_partials ds s)
  unfolding with_partials head_ok pieces_in piece_ok piece_size_at piece_at blocks_per_piece
  frame_partials ds r n = record {
    head = f.head;
    many = f.many;
    piece = f.piece;
    rising = r;
    few = n;
    recent_extents = extents_same s (with_partials ds s) refl refl [] s.recent_extents ∙ f.recent_extents;
  }

  -- other extents, each in range and none twice
  pub frame_extents : (es : List ℕ) → extents_ok s [] es ≡ true → Frame (with_recent_extents es s)
  unfolding with_recent_extents head_ok pieces_in piece_ok piece_size_at piece_at blocks_per_piece
  frame_extents es g = record {
    head = f.head;
    many = f.many;
    piece = f.piece;
    rising = f.rising;
    few = f.few;
    recent_extents = extents_same s (with_recent_extents es s) refl refl [] es ∙ g;
  }

  -- other cursors in range
  pub frame_cursors : (c r : ℕ) → c ≤ pieces_in s → r ≤ pieces_in s → Frame (with_cursors c r s)
  unfolding with_cursors pieces_in piece_ok piece_size_at piece_at blocks_per_piece
  frame_cursors c r hc hr = record {
    head = in_head (with_cursors c r s) (record {
      geometry = g.geometry;
      seeds = g.seeds;
      cursor = omega (arith, f.many);
      reverse_cursor = omega (arith, f.many);
    });
    many = f.many;
    piece = f.piece;
    rising = f.rising;
    few = f.few;
    recent_extents = extents_same s (with_cursors c r s) refl refl [] s.recent_extents ∙ f.recent_extents;
  }
    where
      g : HeadIn s
      g = head_in s f.head

  -- as many other pieces in range
  pub frame_pieces : (ps : List Piece) → len ps ≡ pieces_in s → ((i : ℕ) → i < pieces_in s → piece_ok s i (nth no_piece ps i) ≡ true)
      → Frame (with_pieces ps s)
  unfolding with_pieces head_ok pieces_in piece_ok piece_size_at piece_at blocks_per_piece
  frame_pieces ps n g = record {
    head = f.head;
    many = n ∙ f.many;
    piece = λ i h. g i (omega (arith, h, n));
    rising = f.rising;
    few = f.few;
    recent_extents = extents_same s (with_pieces ps s) n refl [] s.recent_extents ∙ f.recent_extents;
  }

  -- another number of seeds, with which the pieces are in range
  pub frame_seeds : (n : ℕ) → n ≤ max_peers → ((i : ℕ) → i < pieces_in s → piece_ok (with_seeds n s) i (piece_at s i) ≡ true)
      → Frame (with_seeds n s)
  unfolding with_seeds pieces_in piece_at blocks_per_piece
  frame_seeds n h o = record {
    head = in_head (with_seeds n s) (record { geometry = g.geometry; seeds = h; cursor = g.cursor; reverse_cursor = g.reverse_cursor });
    many = f.many;
    piece = o;
    rising = f.rising;
    few = f.few;
    recent_extents = extents_same s (with_seeds n s) refl refl [] s.recent_extents ∙ f.recent_extents;
  }
    where
      g : HeadIn s
      g = head_in s f.head

  -- a piece changed within its range
  pub frame_piece : (i : ℕ) (g : Piece → Piece) → i < pieces_in s → piece_ok s i (g (piece_at s i)) ≡ true → Frame (with_piece i g s)
  unfolding with_piece with_pieces pieces_in piece_at
  frame_piece i g h o = frame_pieces (set_nth i (g (piece_at s i)) s.pieces) (pieces_in-with_piece i g s) go
    where
      go : (k : ℕ) → k < pieces_in s → piece_ok s k (piece_at (with_piece i g s) k) ≡ true
      go k l = elim (ℕ_discrete k i) [
        | yes e ↦ rw (e, piece_at_same i g s h) o
        | no n ↦ rw (piece_at_other i g s k n) (f.piece k l)
      ]

-- ---- what holds of a piece, with a field replaced that it does not depend on
module _ (s : Picker) (k : ℕ) (a : At s k) where
  -- the list replaced
  pub at_listing : (l : Listing) → At (with_listing l s) k
  unfolding with_listing piece_at partial_of blocks_in_piece
  at_listing l = at_same s (with_listing l s) k refl refl refl a

  -- the cursors replaced
  pub at_cursors : (c r : ℕ) → At (with_cursors c r s) k
  unfolding with_cursors piece_at partial_of blocks_in_piece
  at_cursors c r = at_same s (with_cursors c r s) k refl refl refl a

  -- the extents replaced
  pub at_extents : (es : List ℕ) → At (with_recent_extents es s) k
  unfolding with_recent_extents piece_at partial_of blocks_in_piece
  at_extents es = at_same s (with_recent_extents es s) k refl refl refl a

  -- the seeds replaced
  pub at_seeds : (n : ℕ) → At (with_seeds n s) k
  unfolding with_seeds piece_at partial_of blocks_in_piece
  at_seeds n = at_same s (with_seeds n s) k refl refl refl a

  -- the partials of other pieces replaced
  pub at_partials : (ds : List DownloadingPiece) → find_dl_piece k ds ≡ partial_of s k → At (with_partials ds s) k
  unfolding with_partials piece_at partial_of blocks_in_piece
  at_partials ds e = at_same s (with_partials ds s) k refl e refl a

  -- another piece changed
  pub at_piece : (i : ℕ) (g : Piece → Piece) → k ≢ i → At (with_piece i g s) k
  unfolding with_piece with_pieces partial_of blocks_in_piece
  at_piece i g n = at_same s (with_piece i g s) k (piece_at_other i g s k n) refl refl a

  -- changes that leave the piece's state and priority
  pub at_counts : (s' : Picker) → (piece_at s' k).state ≡ (piece_at s k).state → (piece_at s' k).priority ≡ (piece_at s k).priority
      → partial_of s' k ≡ partial_of s k → blocks_in_piece s' k ≡ blocks_in_piece s k → At s' k
  unfolding state_ok
  at_counts s' p w q b = go a
    where
      go : At s k → At s' k
      go (free o n) = free (rw p o) (q ∙ n)
      go (taken d o n g) = taken d (rw p o) (q ∙ n) (fits_partial s' k d (rw b (partial_fits s k d g)) (rw (p, w) g.state))

-- ---- the list mended
-- P does not depend on the list
module _ (P : Picker → Type 0) (blind : (l : Listing) (s : Picker) → P s → P (with_listing l s)) where
  update_blind : (ds : List ℕ) (old x : ℕ) (w : Drawing) → P w.picker → P (update ds old x w).picker
  unfolding update update_in drawing
  update_blind ds old x w p = go w.picker.listing
    where
      go : (k : Listing) → P (update_in k ds old x w).picker
      go dirty = p
      go (fresh l) = blind (fresh (updated (rank w.picker) ds w.used old x l)) w.picker p

  -- it holds after a change and the list mended if it holds after the change
  pub moved_blind : (ds : List ℕ) (x : ℕ) (f : Picker → Picker) (w : Drawing) → P (f w.picker) → P (change_and_update ds x f w).picker
  unfolding change_and_update no_draw drawing
  moved_blind ds x f w p = update_blind ds (rank w.picker x) x (no_draw f w) p

-- all but the list does not depend on it
pub body_listing : (l : Listing) (s : Picker) → Body s → Body (with_listing l s)
body_listing l s b = record { frame = frame_listing s b.frame l; all = λ k. at_listing s k (b.all k) l }

-- nor does all but the list and a state
pub but_listing : (i : ℕ) (d : DownloadingPiece) (l : Listing) (s : Picker) → BodyBut i d s → BodyBut i d (with_listing l s)
unfolding with_listing piece_at partial_of blocks_in_piece
but_listing i d l s b = record {
  frame = frame_listing s b.frame l;
  others = λ k n. at_listing s k (b.others k n) l;
  standing = b.standing;
  found = b.found;
  fits = b.fits;
}

-- ---- a change of one piece
-- of what the list depends on, s' has what s has but for piece i
pub record Alone (i : ℕ) (s s' : Picker) : Type 0 where
  pub listing : s'.listing ≡ s.listing
  pub many : pieces_in s' ≡ pieces_in s
  pub ranks : (k : ℕ) → k ≢ i → rank s' k ≡ rank s k

-- one piece changed
pub alone_piece : (i : ℕ) (g : Piece → Piece) (s : Picker) → Alone i s (with_piece i g s)
unfolding with_piece with_pieces
alone_piece i g s = record { listing = refl; many = pieces_in-with_piece i g s; ranks = rank_other i g s }

-- a list that was right is right after a change of piece i alone
pub moved_listed : (ds : List ℕ) (i : ℕ) (f : Picker → Picker) (w : Drawing)
    → Alone i w.picker (f w.picker) → ListingOk w.picker → ListingOk (change_and_update ds i f w).picker
moved_listed ds i f w a l = moved_keeps ds i f w a.listing a.many a.ranks l

-- and the picker is well-formed if all but the list is right after the change
pub moved_sound : (ds : List ℕ) (i : ℕ) (f : Picker → Picker) (w : Drawing)
    → Alone i w.picker (f w.picker) → ListingOk w.picker → Body (f w.picker) → Sound (change_and_update ds i f w).picker
moved_sound ds i f w a l b =
    body_sound (change_and_update ds i f w).picker (moved_blind Body body_listing ds i f w b) (moved_listed ds i f w a l)

-- ---- a list out of date
-- a picker whose list is made dirty is well-formed if all else is right
pub mark_dirty_sound : (s : Picker) → Body s → Sound (mark_dirty s)
unfolding mark_dirty
mark_dirty_sound s b = body_sound (mark_dirty s) (body_listing dirty s b) (mark_dirty_ok s)
