-- On a picker: mending and refreshing the list touch nothing but the list, keep it dirty or as it is to be, and take few draws.
use mathlib.Core.Path.{◌≡◌, refl, sym, ap, subst, ◌∙◌}
use mathlib.Core.Logic.{◌≢◌}
use Prim.Native.Nat.{ℕ, ◌+◌, ◌-◌, ◌≤◌, ◌<◌}
use native.Mathlib.Decide.{dec_le}
use native.Mathlib.Omega.{arith}
use mathlib.Core.Bool.{false, true≢false}
use mathlib.Core.List.{List}
use Rattle.model.specs.Lists.{len}
use Rattle.model.specs.State.{Piece, Picker, Listing, dirty, fresh, is_dirty, list_of, with_listing, with_pieces, with_piece, piece_at}
use Rattle.model.specs.State.{pieces_in, mark_dirty, new}
use Rattle.model.specs.list.Order.{rank, updated, rebuilt, Drawing, drawing, no_draw, update_in, update, update_pieces_in, update_pieces}
use Rattle.model.specs.list.Order.{change_and_update}
use Rattle.model.specs.list.Listed.{Listed, ListingOf, ListingOk}
use Rattle.model.proofs.list.GroupMoves.{relist_draws_le}
use Rattle.model.proofs.list.ListedMoves.{listed_same, updated_keeps, updated_stays}
use Rattle.model.proofs.list.ListedRebuild.{rebuilt_listed, rebuild_draws_le}
use Rattle.model.proofs.list.RankLaws.{rank_same, rank_beyond, rank_other, pieces_in-with_piece}

-- ---- the list alone
-- s' is s but for the list
pub record OnlyListing (s s' : Picker) : Type 0 where
  pub total_size : s'.total_size ≡ s.total_size
  pub piece_size : s'.piece_size ≡ s.piece_size
  pub seeds : s'.seeds ≡ s.seeds
  pub cursor : s'.cursor ≡ s.cursor
  pub reverse_cursor : s'.reverse_cursor ≡ s.reverse_cursor
  pub pieces : s'.pieces ≡ s.pieces
  pub partials : s'.partials ≡ s.partials
  pub recent_extents : s'.recent_extents ≡ s.recent_extents

same_fields : (s : Picker) → OnlyListing s s
same_fields s = record {
  total_size = refl;
  piece_size = refl;
  seeds = refl;
  cursor = refl;
  reverse_cursor = refl;
  pieces = refl;
  partials = refl;
  recent_extents = refl;
}

-- another list alone
pub with_listing_only : (l : Listing) (s : Picker) → OnlyListing s (with_listing l s)
unfolding with_listing
with_listing_only l s = record {
  total_size = refl;
  piece_size = refl;
  seeds = refl;
  cursor = refl;
  reverse_cursor = refl;
  pieces = refl;
  partials = refl;
  recent_extents = refl;
}

same_pieces : (s s' : Picker) → OnlyListing s s' → pieces_in s' ≡ pieces_in s
unfolding pieces_in
same_pieces s s' o = ap len o.pieces

-- mending touches nothing else
pub update_only : (ds : List ℕ) (old x : ℕ) (w : Drawing) → OnlyListing w.picker (update ds old x w).picker
unfolding update update_in drawing
update_only ds old x w = go w.picker.listing
  where
    go : (k : Listing) → OnlyListing w.picker (update_in k ds old x w).picker
    go dirty = same_fields w.picker
    go (fresh l) = with_listing_only (fresh (updated (rank w.picker) ds w.used old x l)) w.picker

-- and refreshing neither
pub update_pieces_only : (ds : List ℕ) (w : Drawing) → OnlyListing w.picker (update_pieces ds w).picker
unfolding update_pieces update_pieces_in drawing
update_pieces_only ds w = go w.picker.listing
  where
    go : (k : Listing) → OnlyListing w.picker (update_pieces_in k ds w).picker
    go dirty = with_listing_only (fresh (rebuilt ds w.used w.picker)) w.picker
    go (fresh l) = same_fields w.picker

-- after a change f, nothing but the list differs from what f gives
pub moved_only : (ds : List ℕ) (x : ℕ) (f : Picker → Picker) (w : Drawing) → OnlyListing (f w.picker) (change_and_update ds x f w).picker
unfolding change_and_update no_draw drawing
moved_only ds x f w = update_only ds (rank w.picker x) x (no_draw f w)

-- ---- draws
-- mending takes one draw or none
pub update-used : (ds : List ℕ) (old x : ℕ) (w : Drawing) → (w.used ≤ (update ds old x w).used) × ((update ds old x w).used ≤ w.used + 1)
unfolding update update_in drawing
update-used ds old x w = go w.picker.listing
  where
    go : (k : Listing) → (w.used ≤ (update_in k ds old x w).used) × ((update_in k ds old x w).used ≤ w.used + 1)
    go dirty = omega arith
    go (fresh l) = omega (arith, relist_draws_le (rank w.picker) old x l)

-- and so does a change with the list mended after it
pub moved_used : (ds : List ℕ) (x : ℕ) (f : Picker → Picker) (w : Drawing) → (w.used ≤ (change_and_update ds x f w).used) × ((change_and_update ds x f w).used ≤ w.used + 1)
unfolding change_and_update no_draw drawing
moved_used ds x f w = update-used ds (rank w.picker x) x (no_draw f w)

-- refreshing takes fewer than there are pieces
pub update_pieces-used : (ds : List ℕ) (w : Drawing) → (w.used ≤ (update_pieces ds w).used) × ((update_pieces ds w).used ≤ w.used + (pieces_in w.picker - 1))
unfolding update_pieces update_pieces_in drawing
update_pieces-used ds w = go w.picker.listing
  where
    go : (k : Listing) → (w.used ≤ (update_pieces_in k ds w).used) × ((update_pieces_in k ds w).used ≤ w.used + (pieces_in w.picker - 1))
    go dirty = omega (arith, rebuild_draws_le w.picker)
    go (fresh l) = omega arith

-- ---- dirty or fresh
-- mending leaves a dirty list dirty, and a fresh one fresh
pub update_dirty : (ds : List ℕ) (old x : ℕ) (w : Drawing) → is_dirty (update ds old x w).picker.listing ≡ is_dirty w.picker.listing
unfolding update update_in drawing with_listing is_dirty
update_dirty ds old x w = go w.picker.listing refl
  where
    go : (k : Listing) → w.picker.listing ≡ k → is_dirty (update_in k ds old x w).picker.listing ≡ is_dirty k
    go dirty e = ap is_dirty e
    go (fresh l) e = refl

-- a refreshed list is fresh
pub update_pieces_fresh : (ds : List ℕ) (w : Drawing) → is_dirty (update_pieces ds w).picker.listing ≡ false
unfolding update_pieces update_pieces_in drawing with_listing is_dirty
update_pieces_fresh ds w = go w.picker.listing refl
  where
    go : (k : Listing) → w.picker.listing ≡ k → is_dirty (update_pieces_in k ds w).picker.listing ≡ false
    go dirty e = refl
    go (fresh l) e = ap is_dirty e

-- ---- the list is dirty, or as it is to be
-- a dirty one is right
pub ok_dirty : (s : Picker) → s.listing ≡ dirty → ListingOk s
unfolding ListingOk
ok_dirty s e = subst (ListingOf (rank s) (pieces_in s)) (sym e) tt

-- a fresh one is to be listed
pub ok_fresh : (s : Picker) (l : List ℕ) → s.listing ≡ fresh l → Listed (rank s) (pieces_in s) l → ListingOk s
unfolding ListingOk
ok_fresh s l e g = subst (ListingOf (rank s) (pieces_in s)) (sym e) g

-- the pieces of a list that is not dirty are listed
pub ok_listed : (s : Picker) → is_dirty s.listing ≡ false → ListingOk s → Listed (rank s) (pieces_in s) (list_of s.listing)
unfolding ListingOk is_dirty list_of
ok_listed s f g = go s.listing f g
  where
    go : (k : Listing) → is_dirty k ≡ false → ListingOf (rank s) (pieces_in s) k → Listed (rank s) (pieces_in s) (list_of k)
    go dirty f g = absurd (true≢false f)
    go (fresh l) f g = g

ok_put : (l : List ℕ) (s : Picker) → Listed (rank s) (pieces_in s) l → ListingOk (with_listing (fresh l) s)
unfolding ListingOk with_listing rank piece_at pieces_in
ok_put l s g = g

ok_of : (s : Picker) → ListingOk s → ListingOf (rank s) (pieces_in s) s.listing
unfolding ListingOk
ok_of s g = g

listing_of : (b b' : ℕ → ℕ) (n : ℕ) (k : Listing) → ((y : ℕ) → y < n → b' y ≡ b y) → ListingOf b n k → ListingOf b' n k
listing_of b b' n dirty f g = tt
listing_of b b' n (fresh l) f g = listed_same b b' n l f g

-- it stays so where the list, the number of pieces and their ranks stay
pub ok_same : (s s' : Picker)
    → s'.listing ≡ s.listing → pieces_in s' ≡ pieces_in s → ((y : ℕ) → y < pieces_in s → rank s' y ≡ rank s y)
    → ListingOk s → ListingOk s'
unfolding ListingOk
ok_same s s' e n f g =
    rw n (subst (ListingOf (rank s') (pieces_in s)) (sym e) (listing_of (rank s) (rank s') (pieces_in s) s.listing f g))

-- mended after piece x came from rank `old`, where the other ranks are as they were
pub update_keeps : (b : ℕ → ℕ) (ds : List ℕ) (old x : ℕ) (w : Drawing)
    → ((y : ℕ) → y ≢ x → rank w.picker y ≡ b y) → old ≡ b x → x < pieces_in w.picker
    → ListingOf b (pieces_in w.picker) w.picker.listing → ListingOk (update ds old x w).picker
unfolding update update_in drawing
update_keeps b ds old x w agree e h g = go w.picker.listing refl g
  where
    go : (k : Listing) → w.picker.listing ≡ k → ListingOf b (pieces_in w.picker) k → ListingOk (update_in k ds old x w).picker
    go dirty q g = ok_dirty w.picker q
    go (fresh l) q g =
        ok_put (updated (rank w.picker) ds w.used old x l) w.picker
        (updated_keeps b (rank w.picker) ds w.used old x (pieces_in w.picker) l agree e g h)

-- and where piece x keeps its rank
update_stays : (ds : List ℕ) (x : ℕ) (w : Drawing) → ListingOk w.picker → ListingOk (update ds (rank w.picker x) x w).picker
unfolding update update_in drawing ListingOk
update_stays ds x w g = go w.picker.listing refl g
  where
    go : (k : Listing) → w.picker.listing ≡ k → ListingOf (rank w.picker) (pieces_in w.picker) k
        → ListingOk (update_in k ds (rank w.picker x) x w).picker
    go dirty q g = ok_dirty w.picker q
    go (fresh l) q g =
        ok_put (updated (rank w.picker) ds w.used (rank w.picker x) x l) w.picker
        (rw (updated_stays (rank w.picker) ds w.used (rank w.picker x) x l refl) g)

-- after a refresh
pub update_pieces_keeps : (ds : List ℕ) (w : Drawing) → ListingOk w.picker → ListingOk (update_pieces ds w).picker
unfolding update_pieces update_pieces_in drawing
update_pieces_keeps ds w g = go w.picker.listing
  where
    go : (k : Listing) → ListingOk (update_pieces_in k ds w).picker
    go dirty = ok_put (rebuilt ds w.used w.picker) w.picker (rebuilt_listed w.picker ds w.used)
    go (fresh l) = g

-- so that a refreshed picker's list holds each piece with a bucket once and no other, buckets never falling
pub update_pieces_listed : (ds : List ℕ) (w : Drawing) → ListingOk w.picker
    → Listed (rank w.picker) (pieces_in w.picker) (list_of (update_pieces ds w).picker.listing)
update_pieces_listed ds w g =
    let o = update_pieces_only ds w in
    let n : pieces_in (update_pieces ds w).picker ≡ pieces_in w.picker = same_pieces w.picker (update_pieces ds w).picker o in
    listed_same (rank (update_pieces ds w).picker) (rank w.picker) (pieces_in w.picker) (list_of (update_pieces ds w).picker.listing)
    (λ y h. sym (rank_same w.picker (update_pieces ds w).picker o.seeds o.pieces y))
    (rw n at (ok_listed (update_pieces ds w).picker (update_pieces_fresh ds w) (update_pieces_keeps ds w g)))

-- a piece changed leaves the list as it is
pub listing-with_piece : (x : ℕ) (f : Piece → Piece) (s : Picker) → (with_piece x f s).listing ≡ s.listing
unfolding with_piece with_pieces
listing-with_piece x f s = refl

-- ---- a change and the list mended after it
-- f changes the rank of piece x at most
module _ (ds : List ℕ) (x : ℕ) (f : Picker → Picker) (w : Drawing) (e : (f w.picker).listing ≡ w.picker.listing) (n : pieces_in (f w.picker) ≡ pieces_in w.picker)
    (agree : (y : ℕ) → y ≢ x → rank (f w.picker) y ≡ rank w.picker y) (g : ListingOk w.picker) where
  moved_inside : x < pieces_in w.picker → ListingOk (change_and_update ds x f w).picker
  unfolding change_and_update no_draw drawing
  moved_inside h =
      update_keeps (rank w.picker) ds (rank w.picker x) x (no_draw f w) agree refl (rw n h)
      (rw n (subst (ListingOf (rank w.picker) (pieces_in w.picker)) (sym e) (ok_of w.picker g)))

  moved_beyond : pieces_in w.picker ≤ x → ListingOk (change_and_update ds x f w).picker
  unfolding change_and_update no_draw drawing
  moved_beyond h =
      subst (λ (k : ℕ). ListingOk (update ds k x (no_draw f w)).picker) same
      (update_stays ds x (no_draw f w) (ok_same w.picker (f w.picker) e n (λ y l. agree y (λ q. absurd (omega arith))) g))
    where
      same : rank (f w.picker) x ≡ rank w.picker x
      same = rank_beyond (f w.picker) x (omega (arith, n)) ∙ sym (rank_beyond w.picker x h)

  -- the list is right after the change and its mending
  pub moved_keeps : ListingOk (change_and_update ds x f w).picker
  moved_keeps = elim (dec_le (pieces_in w.picker) x) [ yes h ↦ moved_beyond h | no h ↦ moved_inside (omega arith) ]

-- one piece changed, and the list mended
pub moved_piece_keeps : (ds : List ℕ) (x : ℕ) (f : Piece → Piece) (w : Drawing) → ListingOk w.picker → ListingOk (change_and_update ds x (with_piece x f) w).picker
moved_piece_keeps ds x f w g =
    moved_keeps ds x (with_piece x f) w (listing-with_piece x f w.picker) (pieces_in-with_piece x f w.picker) (rank_other x f w.picker) g

-- ---- dirty lists
-- a list made dirty
pub mark_dirty_ok : (s : Picker) → ListingOk (mark_dirty s)
unfolding mark_dirty with_listing
mark_dirty_ok s = ok_dirty (mark_dirty s) refl

-- a new picker's list is dirty
pub new_ok : (total_size piece_size : ℕ) → ListingOk (new total_size piece_size)
unfolding new
new_ok total_size piece_size = ok_dirty (new total_size piece_size) refl
