-- Availability: counting a peer or a seed in or out keeps a picker well-formed.
use mathlib.Core.Path.{◌≡◌, refl}
use Prim.Native.Nat.{ℕ, suc, ◌+◌, ◌-◌, ◌≤◌, ◌<◌}
use native.Mathlib.Omega.{arith}
use mathlib.Core.Bool.{Bool, true, false, cond}
use mathlib.Core.List.{List}
use lib.Dec.{eqb}
use borrow.Author.Tests.{eqb-true, eqb-false}
use Rattle.model.specs.Lists.{each, when}
use Rattle.model.specs.State.{Piece, Picker, max_peers, with_peer_count, with_listing, with_seeds, with_pieces, with_piece, piece_at}
use Rattle.model.specs.State.{pieces_in, piece_size_at, blocks_in_piece, mark_dirty}
use Rattle.model.specs.list.Order.{Drawing, drawing, no_draw, change_and_update}
use Rattle.model.specs.change.Partials.{partial_of}
use Rattle.model.specs.change.Changes.{inc_peer_count, dec_peer_count, all_pieces, inc_refcount, break_one_seed, dec_refcount, inc_refcount_all}
use Rattle.model.specs.change.Changes.{dec_refcount_all}
use Rattle.model.specs.image.WellFormed.{piece_ok}
use Rattle.model.specs.list.Listed.{ListingOk}
use Rattle.model.specs.image.Sound.{Sound}
use Rattle.model.proofs.list.RankLaws.{rank-seeds}
use Rattle.model.proofs.sound.PieceLaws.{piece_at_kept, piece_at_all_kept, piece_at-all_pieces, pieces_in-all_pieces}
use Rattle.model.proofs.list.ListingLaws.{ok_same}
use Rattle.model.proofs.sound.SoundBody.{Body, sound_body, body_sound, head_in, piece_in, in_piece, some_piece}
use Rattle.model.proofs.sound.SoundFields.{frame_pieces, frame_piece, frame_seeds, at_counts, at_seeds, alone_piece, moved_sound}
use Rattle.model.proofs.sound.SoundFields.{mark_dirty_sound}

-- ---- a count replaced
module _ (g : Piece → Piece) (n : Piece → ℕ) (is : (p : Piece) → g p ≡ with_peer_count (n p) p) where
  same_state : (p : Piece) → (g p).state ≡ p.state
  unfolding with_peer_count
  same_state p = rw (is p)

  same_priority : (p : Piece) → (g p).priority ≡ p.priority
  unfolding with_peer_count
  same_priority p = rw (is p)

  counted : (s : Picker) (i : ℕ) (p : Piece) → n p + s.seeds ≤ max_peers → piece_ok s i p ≡ true → piece_ok s i (g p) ≡ true
  unfolding with_peer_count
  counted s i p h o =
      let r = piece_in s i p o in
      rw (is p) (in_piece s i (with_peer_count (n p) p) (record { peers = h; priority = r.priority; flushed = r.flushed; pad_bytes = r.pad_bytes }))

  -- of one piece
  body_count : (s : Picker) (i : ℕ) → i < pieces_in s → n (piece_at s i) + s.seeds ≤ max_peers → Body s → Body (with_piece i g s)
  unfolding with_piece with_pieces partial_of blocks_in_piece
  body_count s i h m b = record {
    frame = frame_piece s b.frame i g h (counted s i (piece_at s i) m (b.frame.piece i h));
    all = λ k. at_counts s k (b.all k) (with_piece i g s)
        (piece_at_kept (λ p. p.state) g same_state s i k) (piece_at_kept (λ p. p.priority) g same_priority s i k) refl refl;
  }

  -- of all pieces
  body_counts : (s : Picker) → ((i : ℕ) → i < pieces_in s → n (piece_at s i) + s.seeds ≤ max_peers) → Body s → Body (all_pieces g s)
  unfolding all_pieces with_pieces partial_of blocks_in_piece pieces_in piece_at
  body_counts s m b = record {
    frame = frame_pieces s b.frame (each g s.pieces) (pieces_in-all_pieces g s)
        (λ i h. rw (piece_at-all_pieces g s i h) (counted s i (piece_at s i) (m i h) (b.frame.piece i h)));
    all = λ k. at_counts s k (b.all k) (all_pieces g s)
        (piece_at_all_kept (λ p. p.state) g same_state s k) (piece_at_all_kept (λ p. p.priority) g same_priority s k) refl refl;
  }

up_is : (p : Piece) → inc_peer_count p ≡ with_peer_count (suc p.peer_count) p
unfolding inc_peer_count
up_is p = refl

down_is : (p : Piece) → dec_peer_count p ≡ with_peer_count (p.peer_count - 1) p
unfolding dec_peer_count
down_is p = refl

-- ---- seeds replaced
body_seeds : (s : Picker) (n : ℕ) → n ≤ max_peers → ((i : ℕ) → i < pieces_in s → (piece_at s i).peer_count + n ≤ max_peers) → Body s
    → Body (with_seeds n s)
unfolding with_seeds piece_size_at
body_seeds s n h m b = record {
  frame = frame_seeds s b.frame n h (λ i k.
      let r = piece_in s i (piece_at s i) (b.frame.piece i k) in
      in_piece (with_seeds n s) i (piece_at s i) (record { peers = m i k; priority = r.priority; flushed = r.flushed; pad_bytes = r.pad_bytes }));
  all = λ k. at_seeds s k (b.all k) n;
}

peers_in : (s : Picker) → Body s → (i : ℕ) → i < pieces_in s → (piece_at s i).peer_count + s.seeds ≤ max_peers
peers_in s b i h = (piece_in s i (piece_at s i) (b.frame.piece i h)).peers

-- one seed less
less_seeds : (s : Picker) → Body s → Body (with_seeds (s.seeds - 1) s)
less_seeds s b =
    let h = head_in s b.frame.head in
    body_seeds s (s.seeds - 1) (omega arith) (λ i k. omega (arith, peers_in s b i k)) b

-- ---- one piece
-- one peer more has piece i
pub inc_refcount_keeps : (ds : List ℕ) (i : ℕ) (w : Drawing)
    → i < pieces_in w.picker → (piece_at w.picker i).peer_count + w.picker.seeds < max_peers → Sound w.picker
    → Sound (inc_refcount ds i w).picker
unfolding inc_refcount
inc_refcount_keeps ds i w h m v =
    moved_sound ds i (with_piece i inc_peer_count) w (alone_piece i inc_peer_count w.picker) v.list
    (body_count inc_peer_count (λ p. suc p.peer_count) up_is w.picker i h (omega arith) (sound_body w.picker v))

lower_keeps : (ds : List ℕ) (i : ℕ) (w : Drawing) → i < pieces_in w.picker → Sound w.picker
    → Sound (change_and_update ds i (with_piece i dec_peer_count) w).picker
lower_keeps ds i w h v =
    let b = sound_body w.picker v in
    moved_sound ds i (with_piece i dec_peer_count) w (alone_piece i dec_peer_count w.picker) v.list
    (body_count dec_peer_count (λ p. p.peer_count - 1) down_is w.picker i h (omega (arith, peers_in w.picker b i h)) b)

-- a seed that lacks a piece becomes a peer of each
pub break_one_seed_keeps : (s : Picker) → 1 ≤ s.seeds → Sound s → Sound (break_one_seed s)
unfolding break_one_seed with_seeds pieces_in piece_at
break_one_seed_keeps s h v =
    mark_dirty_sound (all_pieces inc_peer_count t) (body_counts inc_peer_count (λ p. suc p.peer_count) up_is t fits (less_seeds s (sound_body s v)))
  where
    t : Picker
    t = with_seeds (s.seeds - 1) s

    fits : (i : ℕ) → i < pieces_in t → suc (piece_at t i).peer_count + t.seeds ≤ max_peers
    fits i k = omega (arith, peers_in s (sound_body s v) i k)

pieces_in_broken : (s : Picker) → pieces_in (break_one_seed s) ≡ pieces_in s
unfolding break_one_seed mark_dirty with_listing with_seeds pieces_in
pieces_in_broken s = pieces_in-all_pieces inc_peer_count (with_seeds (s.seeds - 1) s)

-- one peer less has piece i: it was among those counted for the piece, or a seed
pub dec_refcount_keeps : (ds : List ℕ) (i : ℕ) (w : Drawing)
    → i < pieces_in w.picker → 1 ≤ (piece_at w.picker i).peer_count + w.picker.seeds → Sound w.picker
    → Sound (dec_refcount ds i w).picker
unfolding dec_refcount when no_draw drawing
dec_refcount_keeps ds i w h m v = go (eqb (piece_at w.picker i).peer_count 0) refl
  where
    go : (b : Bool) → eqb (piece_at w.picker i).peer_count 0 ≡ b
        → Sound (change_and_update ds i (with_piece i dec_peer_count) (when b (no_draw break_one_seed) w)).picker
    go true e =
        lower_keeps ds i (no_draw break_one_seed w) (rw (pieces_in_broken w.picker) h)
        (break_one_seed_keeps w.picker (omega (arith, eqb-true (piece_at w.picker i).peer_count 0 e)) v)
    go false e = lower_keeps ds i w h v

-- ---- all pieces
-- where there are seeds before and after, their number does not matter to the list
seeds_keep : (s : Picker) (n : ℕ) → 1 ≤ n → 1 ≤ s.seeds → Body (with_seeds n s) → ListingOk s → Sound (with_seeds n s)
unfolding with_seeds pieces_in
seeds_keep s n h k b l = body_sound (with_seeds n s) b (ok_same s (with_seeds n s) refl refl (λ y m. rank-seeds n s y h k) l)

-- one seed more
pub inc_refcount_all_keeps : (s : Picker) → ((i : ℕ) → i < pieces_in s → (piece_at s i).peer_count + s.seeds < max_peers) → Sound s
    → Sound (inc_refcount_all s)
unfolding inc_refcount_all when
inc_refcount_all_keeps s m v = go (eqb s.seeds 0) refl
  where
    more : Body (with_seeds (suc s.seeds) s)
    more =
        let b = sound_body s v in
        body_seeds s (suc s.seeds) (omega (arith, m 0 (some_piece s b.frame))) (λ i h. omega (arith, m i h)) b

    go : (b : Bool) → eqb s.seeds 0 ≡ b → Sound (when b mark_dirty (with_seeds (suc s.seeds) s))
    go true e = mark_dirty_sound (with_seeds (suc s.seeds) s) more
    go false e = seeds_keep s (suc s.seeds) (omega arith) (omega (arith, eqb-false s.seeds 0 e)) more v.list

-- one seed less, or with no seed one peer of each piece less
pub dec_refcount_all_keeps : (s : Picker) → Sound s → Sound (dec_refcount_all s)
unfolding dec_refcount_all when
dec_refcount_all_keeps s v = go (eqb s.seeds 0) refl (eqb s.seeds 1) refl
  where
    b : Body s
    b = sound_body s v

    t : Picker
    t = with_seeds (s.seeds - 1) s

    go : (c : Bool) → eqb s.seeds 0 ≡ c → (d : Bool) → eqb s.seeds 1 ≡ d
        → Sound (cond c (mark_dirty (all_pieces dec_peer_count s)) (when d mark_dirty t))
    go true e d q =
        mark_dirty_sound (all_pieces dec_peer_count s)
        (body_counts dec_peer_count (λ p. p.peer_count - 1) down_is s (λ i k. omega (arith, peers_in s b i k)) b)
    go false e true q = mark_dirty_sound t (less_seeds s b)
    go false e false q =
        let some : ¬ (s.seeds ≡ 0) = eqb-false s.seeds 0 e in
        let more : ¬ (s.seeds ≡ 1) = eqb-false s.seeds 1 q in
        seeds_keep s (s.seeds - 1) (omega arith) (omega arith) (less_seeds s b) v.list
