-- A pick leaves a sound picker sound, touches of it only the list and the extents, and takes at most 4,352 draws. Assumes nothing.
use mathlib.Core.Path.{◌≡◌, refl, ap}
use mathlib.Core.Logic.{◌⊎◌, inl, inr}
use Prim.Native.Nat.{ℕ, zero, suc, ◌+◌, ◌-◌, ◌≤◌}
use native.Mathlib.Omega.{arith}
use mathlib.Core.Bool.{Bool, true, false, not, ◌&&◌, ◌||◌}
use mathlib.Core.List.{List, [], ◌∷◌, ◌++◌}
use lib.Dec.{eqb, ltb, leb}
use lib.ListN.{length, length-append}
use borrow.Author.Tests.{leb-true, ltb-true, lt-ltb, not-true}
use Rattle.model.specs.Lists.{any, member, len, remove_nth}
use Rattle.model.specs.Bep3.{num_pieces}
use Rattle.model.specs.State.{DownloadingPiece, Picker, Listing, dirty, fresh, max_pieces, max_piece_size, max_peers, max_extents}
use Rattle.model.specs.State.{min_draws, with_listing, with_recent_extents, valid_geometry, piece_at, pieces_in, piece_size_at, blocks_per_piece}
use Rattle.model.specs.State.{blocks_in_piece, num_extents}
use Rattle.model.specs.Options.{rarest_first, sequential}
use Rattle.model.specs.list.Order.{drawing, rank, rebuilt, update_pieces_in, update_pieces}
use Rattle.model.specs.change.Partials.{partial_of}
use Rattle.model.specs.pick.Blocks.{PickRequest, option}
use Rattle.model.specs.pick.Pick.{pick_pieces}
use Rattle.model.specs.image.WellFormed.{head_ok, piece_ok, extent_ok, extents_ok}
use Rattle.model.specs.list.Listed.{ListingOk}
use Rattle.model.specs.image.Sound.{PartialSound, Sound}
use Rattle.model.specs.Calls.{bitfield_fits, request_fits}
use Rattle.model.proofs.list.ListingLaws.{OnlyListing, update_pieces_only, update_pieces-used, update_pieces_keeps}
use Rattle.model.proofs.pick.PickerLaws.{Leaves, same, listed, forgot, pick_left}
use Rattle.model.proofs.base.Truths.{and_left, and_right, four_true, or_no_left, or_no_right, three_true, true_both}

or_no : (a b : Bool) → a ≡ false → b ≡ false → (a || b) ≡ false
or_no true b h g = h
or_no false b h g = g

-- ---- what the checks say
-- the pick's numbers are in range
pub record Fitting (a : PickRequest) : Type 0 where
  pub some : 1 ≤ a.wanted
  pub wanted : a.wanted ≤ 2048
  pub contiguous : a.contiguous ≤ 2048
  pub suggestions : len a.suggestions ≤ 256

-- a pick that is not refused has them
pub ask_fits : (s : Picker) (a : PickRequest) → request_fits s a ≡ true → Fitting a
unfolding request_fits
ask_fits s a h =
    let rest = leb (len a.suggestions) 256 && (not (option rarest_first a && option sequential a) && bitfield_fits s a) in
    let p = four_true (leb 1 a.wanted) (leb a.wanted 2048) (leb a.contiguous 2048) (leb a.peers 1000 && rest) h in
    let q = and_right (leb a.peers 1000) rest p.3 in
    record {
      some = leb-true 1 a.wanted p.0;
      wanted = leb-true a.wanted 2048 p.1;
      contiguous = leb-true a.contiguous 2048 p.2;
      suggestions = leb-true (len a.suggestions) 256 (and_left (leb (len a.suggestions) 256) (not (option rarest_first a && option sequential a) && bitfield_fits s a) q);
    }

-- a sound picker has 1 to 4,096 pieces, of at most 4,194,304 bytes
pub record Sized (s : Picker) : Type 0 where
  pub total_size : 1 ≤ s.total_size
  pub some : 1 ≤ s.piece_size
  pub most : s.piece_size ≤ 4194304
  pub few : pieces_in s ≤ 4096

-- so has every sound picker
pub sound_sized : (s : Picker) → Sound s → Sized s
unfolding head_ok valid_geometry
sound_sized s h =
    let n = num_pieces s.total_size s.piece_size in
    let p = four_true (leb 1 s.total_size) (leb 1 s.piece_size) (leb s.piece_size max_piece_size) (leb n max_pieces)
    (and_left (valid_geometry s.total_size s.piece_size) (leb s.seeds max_peers && (leb s.cursor n && leb s.reverse_cursor n)) h.head) in
    let f = leb-true n max_pieces p.3 in
    record {
      total_size = leb-true 1 s.total_size p.0;
      some = leb-true 1 s.piece_size p.1;
      most = leb-true s.piece_size max_piece_size p.2;
      few = omega (arith, h.many);
    }

-- ---- draws
leaves_used : (ds : List ℕ) (s : Picker) (q : Picker) (t : ℕ) → Leaves ds s q t → t ≤ 1 + (pieces_in s - 1)
unfolding drawing
leaves_used ds s q t (same n h) = omega arith
leaves_used ds s q t listed = omega (arith, update_pieces-used ds (drawing 0 s))
leaves_used ds s q t (forgot k) = omega (arith, update_pieces-used ds (drawing 0 s))

-- a pick takes at most 4,297 draws: fewer than are lent
pub pick_draws : (ds : List ℕ) (s : Picker) (a : PickRequest) → Sound s → request_fits s a ≡ true → (pick_pieces ds s a).used ≤ min_draws
pick_draws ds s a h f =
    let l = pick_left ds s a (ask_fits s a f).some in
    let u = leaves_used ds s (pick_pieces ds s a).picker l.before l.leaves in
    let d = l.draws in
    let m = (sound_sized s h).few in
    omega arith

-- ---- an extent forgotten
module _ {A : Type 0} (t : A → Bool) where
  some_append : (l m : List A) → any t m ≡ false → any t l ≡ false → any t (l ++ m) ≡ false
  unfolding any
  some_append [] m h g = h
  some_append (x ∷ l) m h g = or_no (t x) (any t (l ++ m)) (or_no_left (t x) (any t l) g) (some_append l m h (or_no_right (t x) (any t l) g))

  some_front : (l m : List A) → any t (l ++ m) ≡ false → any t l ≡ false
  unfolding any
  some_front [] m h = refl
  some_front (x ∷ l) m h = or_no (t x) (any t l) (or_no_left (t x) (any t (l ++ m)) h) (some_front l m (or_no_right (t x) (any t (l ++ m)) h))

  some_back : (l m : List A) → any t (l ++ m) ≡ false → any t m ≡ false
  unfolding any
  some_back [] m h = h
  some_back (x ∷ l) m h = some_back l m (or_no_right (t x) (any t (l ++ m)) h)

-- fewer extents before, and none that did not stand there
record Fewer (b c : List ℕ) : Type 0 where
  many : length b ≤ length c
  none : (e : ℕ) → member e c ≡ false → member e b ≡ false

fewer_next : (b c : List ℕ) (e : ℕ) → Fewer b c → Fewer (b ++ (e ∷ [])) (c ++ (e ∷ []))
unfolding member
fewer_next b c e h = record {
  many = omega (arith, h.many, length-append b (e ∷ []), length-append c (e ∷ []));
  none = λ x g. some_append (eqb x) b (e ∷ []) (some_back (eqb x) c (e ∷ []) g) (h.none x (some_front (eqb x) c (e ∷ []) g));
}

fewer_one : (b : List ℕ) (e : ℕ) → Fewer b (b ++ (e ∷ []))
unfolding member
fewer_one b e = record { many = omega (arith, length-append b (e ∷ [])); none = λ x g. some_front (eqb x) b (e ∷ []) g }

module _ (s : Picker) where
  fewer_ok : (b c : List ℕ) (e : ℕ) → Fewer b c → extent_ok s c e ≡ true → extent_ok s b e ≡ true
  unfolding extent_ok len
  fewer_ok b c e h g =
      let p = three_true (ltb (len c) max_extents) (ltb e (num_extents (pieces_in s) (blocks_per_piece s))) (not (member e c)) g in
      let l = ltb-true (len c) max_extents p.0 in
      let m = h.many in
      true_both (ltb (len b) max_extents) (ltb e (num_extents (pieces_in s) (blocks_per_piece s)) && not (member e b)) (lt-ltb (len b) max_extents (omega arith))
      (true_both (ltb e (num_extents (pieces_in s) (blocks_per_piece s))) (not (member e b)) p.1 (ap not (h.none e (not-true (member e c) p.2))))

  fewer_extents : (es b c : List ℕ) → Fewer b c → extents_ok s c es ≡ true → extents_ok s b es ≡ true
  unfolding extents_ok
  fewer_extents [] b c h g = refl
  fewer_extents (e ∷ es) b c h g =
      true_both (extent_ok s b e) (extents_ok s (b ++ (e ∷ [])) es) (fewer_ok b c e h (and_left (extent_ok s c e) (extents_ok s (c ++ (e ∷ [])) es) g))
      (fewer_extents es (b ++ (e ∷ [])) (c ++ (e ∷ [])) (fewer_next b c e h) (and_right (extent_ok s c e) (extents_ok s (c ++ (e ∷ [])) es) g))

  -- the extents stay right without one of them
  pub without_ok : (k : ℕ) (es b : List ℕ) → extents_ok s b es ≡ true → extents_ok s b (remove_nth k es) ≡ true
  unfolding extents_ok remove_nth
  without_ok k [] b g = g
  without_ok zero (e ∷ es) b g = fewer_extents es b (b ++ (e ∷ [])) (fewer_one b e) (and_right (extent_ok s b e) (extents_ok s (b ++ (e ∷ [])) es) g)
  without_ok (suc k) (e ∷ es) b g =
      true_both (extent_ok s b e) (extents_ok s (b ++ (e ∷ [])) (remove_nth k es)) (and_left (extent_ok s b e) (extents_ok s (b ++ (e ∷ [])) es) g)
      (without_ok k es (b ++ (e ∷ [])) (and_right (extent_ok s b e) (extents_ok s (b ++ (e ∷ [])) es) g))

-- ---- soundness
module _ (s : Picker) (es : List ℕ) where
  extents_other : (fs b : List ℕ) → extents_ok s b fs ≡ true → extents_ok (with_recent_extents es s) b fs ≡ true
  unfolding extents_ok extent_ok with_recent_extents pieces_in blocks_per_piece
  extents_other [] b g = refl
  extents_other (e ∷ fs) b g =
      true_both (extent_ok s b e) (extents_ok (with_recent_extents es s) (b ++ (e ∷ [])) fs) (and_left (extent_ok s b e) (extents_ok s (b ++ (e ∷ [])) fs) g)
      (extents_other fs (b ++ (e ∷ [])) (and_right (extent_ok s b e) (extents_ok s (b ++ (e ∷ [])) fs) g))

  extents_list : ListingOk s → ListingOk (with_recent_extents es s)
  unfolding ListingOk with_recent_extents rank piece_at pieces_in
  extents_list h = h

  extents_partial : (i : ℕ) (d : DownloadingPiece) → PartialSound s i d → PartialSound (with_recent_extents es s) i d
  unfolding with_recent_extents blocks_in_piece piece_at
  extents_partial i d h = record { piece = h.piece; blocks = h.blocks; each = h.each; state = h.state }

  -- other extents that are right
  pub sound_extents : Sound s → extents_ok s [] es ≡ true → Sound (with_recent_extents es s)
  unfolding with_recent_extents head_ok pieces_in piece_ok piece_size_at piece_at partial_of
  sound_extents h g = record {
    head = h.head;
    many = h.many;
    piece = h.piece;
    rising = h.rising;
    few = h.few;
    vacant = h.vacant;
    standing = h.standing;
    partial = λ i d e. extents_partial i d (h.partial i d e);
    recent_extents = extents_other es [] g;
    list = extents_list h.list;
  }

module _ (s : Picker) (l : Listing) where
  listing_extents : (fs b : List ℕ) → extents_ok s b fs ≡ true → extents_ok (with_listing l s) b fs ≡ true
  unfolding extents_ok extent_ok with_listing pieces_in blocks_per_piece
  listing_extents [] b g = refl
  listing_extents (e ∷ fs) b g =
      true_both (extent_ok s b e) (extents_ok (with_listing l s) (b ++ (e ∷ [])) fs) (and_left (extent_ok s b e) (extents_ok s (b ++ (e ∷ [])) fs) g)
      (listing_extents fs (b ++ (e ∷ [])) (and_right (extent_ok s b e) (extents_ok s (b ++ (e ∷ [])) fs) g))

  listing_partial : (i : ℕ) (d : DownloadingPiece) → PartialSound s i d → PartialSound (with_listing l s) i d
  unfolding with_listing blocks_in_piece piece_at
  listing_partial i d h = record { piece = h.piece; blocks = h.blocks; each = h.each; state = h.state }

  -- another list that is right
  pub sound_listing : Sound s → ListingOk (with_listing l s) → Sound (with_listing l s)
  unfolding with_listing head_ok pieces_in piece_ok piece_size_at piece_at partial_of
  sound_listing h g = record {
    head = h.head;
    many = h.many;
    piece = h.piece;
    rising = h.rising;
    few = h.few;
    vacant = h.vacant;
    standing = h.standing;
    partial = λ i d e. listing_partial i d (h.partial i d e);
    recent_extents = listing_extents s.recent_extents [] h.recent_extents;
    list = g;
  }

-- a refreshed list
pub sound_update_pieces : (ds : List ℕ) (t : ℕ) (s : Picker) → Sound s → Sound (update_pieces ds (drawing t s)).picker
unfolding update_pieces update_pieces_in drawing
sound_update_pieces ds t s h = go s.listing (update_pieces_keeps ds (drawing t s) h.list)
  where
    go : (k : Listing) → ListingOk (update_pieces_in k ds (drawing t s)).picker → Sound (update_pieces_in k ds (drawing t s)).picker
    go dirty g = sound_listing s (fresh (rebuilt ds t s)) h g
    go (fresh l) g = h

leaves_sound : (ds : List ℕ) (s q : Picker) (t : ℕ) → Sound s → Leaves ds s q t → Sound q
leaves_sound ds s q t h (same n l) = h
leaves_sound ds s q t h listed = sound_update_pieces ds 0 s h
leaves_sound ds s q t h (forgot k) =
    let p = (update_pieces ds (drawing 0 s)).picker in
    let g = sound_update_pieces ds 0 s h in
    sound_extents p (remove_nth k p.recent_extents) g (without_ok p k p.recent_extents [] g.recent_extents)

-- a pick leaves a sound picker sound
pub pick_sound : (ds : List ℕ) (s : Picker) (a : PickRequest) → Sound s → request_fits s a ≡ true → Sound (pick_pieces ds s a).picker
pick_sound ds s a h f =
    let l = pick_left ds s a (ask_fits s a f).some in
    leaves_sound ds s (pick_pieces ds s a).picker l.before h l.leaves

-- ---- field by field
-- q is s but for the list, which may be refreshed, and the extents, of which one may be gone
pub record OnlyLists (ds : List ℕ) (s q : Picker) : Type 0 where
  pub total_size : q.total_size ≡ s.total_size
  pub piece_size : q.piece_size ≡ s.piece_size
  pub seeds : q.seeds ≡ s.seeds
  pub cursor : q.cursor ≡ s.cursor
  pub reverse_cursor : q.reverse_cursor ≡ s.reverse_cursor
  pub pieces : q.pieces ≡ s.pieces
  pub partials : q.partials ≡ s.partials
  pub list : (q.listing ≡ s.listing) ⊎ (q.listing ≡ (update_pieces ds (drawing 0 s)).picker.listing)
  pub recent_extents : (q.recent_extents ≡ s.recent_extents) ⊎ ((k : ℕ) × (q.recent_extents ≡ remove_nth k s.recent_extents))

only_of : (ds : List ℕ) (s : Picker) → OnlyListing s (update_pieces ds (drawing 0 s)).picker
unfolding drawing
only_of ds s = update_pieces_only ds (drawing 0 s)

forgot_only : (ds : List ℕ) (s : Picker) (k : ℕ)
    → OnlyLists ds s (with_recent_extents (remove_nth k (update_pieces ds (drawing 0 s)).picker.recent_extents) (update_pieces ds (drawing 0 s)).picker)
unfolding with_recent_extents
forgot_only ds s k =
    let o = only_of ds s in
    record {
      total_size = o.total_size;
      piece_size = o.piece_size;
      seeds = o.seeds;
      cursor = o.cursor;
      reverse_cursor = o.reverse_cursor;
      pieces = o.pieces;
      partials = o.partials;
      list = inr refl;
      recent_extents = inr (k, ap (remove_nth k) o.recent_extents);
    }

leaves_only : (ds : List ℕ) (s q : Picker) (t : ℕ) → Leaves ds s q t → OnlyLists ds s q
leaves_only ds s q t (same n l) = record {
  total_size = refl;
  piece_size = refl;
  seeds = refl;
  cursor = refl;
  reverse_cursor = refl;
  pieces = refl;
  partials = refl;
  list = inl refl;
  recent_extents = inl refl;
}
leaves_only ds s q t listed =
    let o = only_of ds s in
    record {
      total_size = o.total_size;
      piece_size = o.piece_size;
      seeds = o.seeds;
      cursor = o.cursor;
      reverse_cursor = o.reverse_cursor;
      pieces = o.pieces;
      partials = o.partials;
      list = inr refl;
      recent_extents = inl o.recent_extents;
    }
leaves_only ds s q t (forgot k) = forgot_only ds s k

-- a pick changes of the picker only the list and the extents
pub pick_only : (ds : List ℕ) (s : Picker) (a : PickRequest) → 1 ≤ a.wanted → OnlyLists ds s (pick_pieces ds s a).picker
pick_only ds s a h = let l = pick_left ds s a h in leaves_only ds s (pick_pieces ds s a).picker l.before l.leaves
