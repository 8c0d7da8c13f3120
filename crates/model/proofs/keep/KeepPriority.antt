-- A piece's priority set keeps a picker well-formed.
use mathlib.Core.Path.{◌≡◌, refl, sym, ap, ◌∙◌}
use mathlib.Core.Logic.{◌≢◌}
use Prim.Native.Nat.{ℕ, ◌≤◌, ◌<◌}
use native.Mathlib.Decide.{ℕ_discrete}
use mathlib.Core.Bool.{Bool, true, false, not, ◌&&◌, true≢false}
use mathlib.Core.List.{List}
use mathlib.Core.Option.{Option, none, some}
use lib.Dec.{eqb}
use Rattle.model.specs.Lists.{unless, when}
use Rattle.model.specs.State.{Piece, DownloadingPiece, Picker, is_open, with_priority, with_cursors, with_piece, with_pieces, piece_at}
use Rattle.model.specs.State.{pieces_in, blocks_in_piece}
use Rattle.model.specs.list.Order.{Drawing, drawing, no_draw, change_and_update}
use Rattle.model.specs.change.Partials.{partial_of, update_piece_state}
use Rattle.model.specs.change.Changes.{saying, cursors_on_filter, filter_changes, priority_set, set_piece_priority}
use Rattle.model.specs.image.Sound.{Sound}
use Rattle.model.proofs.base.Phases.{when_arms, unless_arms}
use Rattle.model.proofs.list.RankLaws.{piece_at_same}
use Rattle.model.proofs.sound.SoundBody.{Frame, At, free, Body, BodyBut, PieceIn, piece_in, in_piece, sound_body, partial_fits}
use Rattle.model.proofs.sound.SoundFields.{frame_piece, at_piece, but_listing, alone_piece, moved_blind, moved_listed, moved_sound}
use Rattle.model.proofs.keep.KeepCursors.{Turned, cursors_on_filter_turned, turned_blind, turned_keeps}
use Rattle.model.proofs.keep.KeepState.{update_keeps}

-- ---- the priority replaced
module _ (i priority : ℕ) (s : Picker) (h : i < pieces_in s) (m : priority ≤ 7) (v : Sound s) where
  priority_frame : Frame (with_piece i (with_priority priority) s)
  unfolding with_priority
  priority_frame = frame_piece s (sound_body s v).frame i (with_priority priority) h (in_piece s i (with_priority priority (piece_at s i)) in_range_lem)
    where
      r : PieceIn s i (piece_at s i)
      r = piece_in s i (piece_at s i) (v.piece i h)

      in_range_lem : PieceIn s i (with_priority priority (piece_at s i))
      in_range_lem = record { peers = r.peers; priority = m; flushed = r.flushed; pad_bytes = r.pad_bytes }

  priority_others : (k : ℕ) → k ≢ i → At (with_piece i (with_priority priority) s) k
  priority_others k n = at_piece s k ((sound_body s v).all k) i (with_priority priority) n

  same_state : (piece_at (with_piece i (with_priority priority) s) i).state ≡ (piece_at s i).state
  unfolding with_priority
  same_state = ap (λ (p : Piece). p.state) (piece_at_same i (with_priority priority) s h)

  -- of an Open piece
  priority_open : is_open (piece_at s i).state ≡ true → Body (with_piece i (with_priority priority) s)
  unfolding with_piece with_pieces partial_of
  priority_open o = record { frame = priority_frame; all = all }
    where
      all : (k : ℕ) → At (with_piece i (with_priority priority) s) k
      all k = elim (ℕ_discrete k i) [
        | yes e ↦ rw e (free (ap is_open same_state ∙ o) (v.vacant i o))
        | no n ↦ priority_others k n
      ]

  -- of another one
  priority_shut : (d : DownloadingPiece) → partial_of s i ≡ some d → is_open (piece_at s i).state ≡ false
      → BodyBut i d (with_piece i (with_priority priority) s)
  unfolding with_piece with_pieces partial_of blocks_in_piece
  priority_shut d f o = record {
    frame = priority_frame;
    others = priority_others;
    standing = ap is_open same_state ∙ o;
    found = f;
    fits = partial_fits s i d (v.partial i d f);
  }

-- ---- the list mended, and the state after it unless the piece is Open
wished_keeps : (ds : List ℕ) (i priority : ℕ) (w : Drawing) (o : Bool)
    → is_open (piece_at w.picker i).state ≡ o → i < pieces_in w.picker → priority ≤ 7 → Sound w.picker
    → Sound (unless o (update_piece_state ds i) (change_and_update ds i (with_piece i (with_priority priority)) w)).picker
unfolding unless
wished_keeps ds i priority w true o h m v =
    moved_sound ds i (with_piece i (with_priority priority)) w (alone_piece i (with_priority priority) w.picker) v.list
    (priority_open i priority w.picker h m v o)
wished_keeps ds i priority w false o h m v = go (partial_of w.picker i) refl
  where
    go : (p : Option DownloadingPiece) → partial_of w.picker i ≡ p
        → Sound (update_piece_state ds i (change_and_update ds i (with_piece i (with_priority priority)) w)).picker
    go none e = absurd (true≢false (sym (v.standing i e) ∙ o))
    go (some d) e =
        update_keeps ds i d (change_and_update ds i (with_piece i (with_priority priority)) w)
        (moved_blind (BodyBut i d) (but_listing i d) ds i (with_piece i (with_priority priority)) w (priority_shut i priority w.picker h m v d e o))
        (moved_listed ds i (with_piece i (with_priority priority)) w (alone_piece i (with_priority priority) w.picker) v.list)

-- ---- the cursors turned before it
-- s' is well-formed, and its piece i is that of s
record Ready (i : ℕ) (s s' : Picker) : Type 0 where
  sound : Sound s'
  here : i < pieces_in s'
  same : piece_at s' i ≡ piece_at s i

module _ (i priority : ℕ) (w : Drawing) (h : i < pieces_in w.picker) (v : Sound w.picker) where
  ready : (b : Bool) → Ready i w.picker (when b (no_draw (cursors_on_filter i priority)) w).picker
  unfolding no_draw drawing with_cursors piece_at pieces_in
  ready b =
      when_arms (λ u. Ready i s u.picker) b (no_draw (cursors_on_filter i priority)) w
      (λ e. record {
        sound = turned_keeps s s' t v;
        here = turned_blind (λ u. i < pieces_in u) (λ c r u p. p) s s' t h;
        same = turned_blind (λ u. piece_at u i ≡ piece_at s i) (λ c r u p. p) s s' t refl;
      })
      (λ e. record { sound = v; here = h; same = refl })
    where
      s : Picker
      s = w.picker

      s' : Picker
      s' = cursors_on_filter i priority s

      t : Turned s s'
      t = cursors_on_filter_turned s (sound_body s v).frame i priority h

  priority_set_keeps : (ds : List ℕ) → priority ≤ 7 → Sound (priority_set ds i priority w).picker
  unfolding priority_set
  priority_set_keeps ds m =
      let p = piece_at w.picker i in
      let b = filter_changes priority p && not p.flushed in
      let r = ready b in
      wished_keeps ds i priority (when b (no_draw (cursors_on_filter i priority)) w) (is_open p.state)
      (ap (λ (q : Piece). is_open q.state) r.same) r.here m r.sound

-- a priority of 0 to 7 set
pub set_piece_priority_keeps : (ds : List ℕ) (i priority : ℕ) (w : Drawing) → i < pieces_in w.picker → priority ≤ 7 → Sound w.picker
    → Sound (set_piece_priority ds i priority w).after.picker
unfolding set_piece_priority saying
set_piece_priority_keeps ds i priority w h m v =
    unless_arms (λ u. Sound u.picker) (eqb priority (piece_at w.picker i).priority) (priority_set ds i priority) w
    (λ e. priority_set_keeps i priority w h v ds m) (λ e. v)
