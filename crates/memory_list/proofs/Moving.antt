-- What callers need: a piece changed, then the list mended after it. What the mending asks follows from the picker before the change, and
-- both together are the model's change and update. Assumes nothing.
use mathlib.Core.Path.{◌≡◌, sym, ap, ◌∙◌, subst, fun_ext}
use mathlib.Core.Bool.{true}
use mathlib.Core.List.{List}
use Prim.Native.Nat.{ℕ, ◌+◌, ◌≤◌, ◌<◌}
use native.Mathlib.Decide.{ℕ_discrete}
use native.Mathlib.Omega.{arith}
use lib.Dec.{leb}
use lib.ListN.{length}
use borrow.Author.Tests.{eq-eqb, ne_eqb, leb-true}
use Rattle.types.specs.declared.queue.DownloadQueue.{DownloadQueue}
use Rattle.model.specs.State.{Piece, Picker, max_peers, max_priority, piece_at, pieces_in, with_piece, with_peer_count, with_state, with_priority}
use Rattle.model.specs.State.{with_flushed, Listing, dirty, fresh, list_of}
use Rattle.model.specs.Lists.{nth, len}
use Rattle.model.specs.list.Listed.{ListingOf, ListingOk}
use Rattle.model.specs.list.Order.{rank, Drawing, drawing, no_draw, update, change_and_update}
use Rattle.model.specs.image.WellFormed.{piece_ok, well_formed}
use Rattle.model.proofs.base.Truths.{and_left, and_right}
use Rattle.model.proofs.list.ListedLaws.{listed_at_lt}
use Rattle.model.proofs.list.ListingLaws.{update_keeps}
use Rattle.model.proofs.list.RankLaws.{pieces_in-with_piece, piece_at_same, piece_at_other}
use Rattle.model.proofs.sound.SoundBody.{Frame, sound_body}
use Rattle.model.proofs.sound.SoundLaws.{well_formed_sound}
use Rattle.model.proofs.sound.SoundFields.{Alone, alone_piece}
use Rattle.memory_records.specs.declared.record.DownloadingPiece.{DownloadingPiece as Record}
use Rattle.memory_layout.specs.declared.shape.Shape.{Shape}
use Rattle.memory_layout.specs.Decode.{head_word, decode}
use Rattle.memory_layout.specs.Bounds.{InBounds, RanksHeld}
use Rattle.memory_layout.specs.Stores.{ListKept, Became, CellsBecame}
use Rattle.memory_layout.proofs.Meanings.{pieces_number, peer_count_is, priority_is}
use Rattle.memory_layout.proofs.BoundsLaws.{became_again, became_named}
use Rattle.memory_layout.proofs.stores.ListFrames.{ranks_kept, list_kept_none}
use Rattle.list_words.specs.Updating.{former}
use Rattle.list_words.proofs.Mending.{former_same, former_other}
use Rattle.memory_ranks.specs.CellRanks.{Ranges}
use Rattle.memory_list.specs.Listings.{ListBounds, RanksRight, ListBefore, ListBecame}

-- ---- peer counts and priorities in range
-- those of a piece
pub record PieceInRange (p : Piece) : Type 0 where
  pub peer_count : p.peer_count ≤ max_peers
  pub priority : p.priority ≤ max_priority

-- those of all pieces
abbrev pub InRange : (d : Picker) → Type 0
InRange d = (k : ℕ) → k < pieces_in d → PieceInRange (piece_at d k)

-- so it is where pieces pass their test
pub frame_range : (d : Picker) → Frame d → InRange d
unfolding piece_ok
frame_range d g k h =
    record {
      peer_count = (
          let l = leb-true ((piece_at d k).peer_count + d.seeds) max_peers (and_left _ _ (g.piece k h)) in
          omega arith
          );
      priority = leb-true (piece_at d k).priority max_priority
          (and_left _ _ (and_right (leb ((piece_at d k).peer_count + d.seeds) max_peers) _ (g.piece k h)));
    }

-- and of a well-formed picker
pub well_formed_range : (d : Picker) → well_formed d ≡ true → InRange d
well_formed_range d e = frame_range d (sound_body d (well_formed_sound d e)).frame

-- with the same pieces
pub range_same : (d d' : Picker) → d'.pieces ≡ d.pieces → InRange d → InRange d'
unfolding piece_at pieces_in
range_same d d' e g k h = rw e (g k (rw e at h))

-- with one piece changed
pub range_piece : (i : ℕ) (g : Piece → Piece) (d : Picker) → InRange d → PieceInRange (g (piece_at d i)) → InRange (with_piece i g d)
range_piece i g d r o k h =
    let m : k < pieces_in d = rw (pieces_in-with_piece i g d) at h in
    elim (ℕ_discrete k i) [
      | yes e ↦ rw (e, piece_at_same i g d (rw e at m)) o
      | no e ↦ rw (piece_at_other i g d k e) (r k m)
    ]

-- changes of one field that leave a piece in range
pub range_peers : (n : ℕ) (p : Piece) → n ≤ max_peers → PieceInRange p → PieceInRange (with_peer_count n p)
unfolding with_peer_count
range_peers n p h r = record { peer_count = h; priority = r.priority }

pub range_priority : (n : ℕ) (p : Piece) → n ≤ max_priority → PieceInRange p → PieceInRange (with_priority n p)
unfolding with_priority
range_priority n p h r = record { peer_count = r.peer_count; priority = h }

pub range_state : (q : DownloadQueue) (p : Piece) → PieceInRange p → PieceInRange (with_state q p)
unfolding with_state
range_state q p r = record { peer_count = r.peer_count; priority = r.priority }

pub range_flushed : (p : Piece) → PieceInRange p → PieceInRange (with_flushed p)
unfolding with_flushed
range_flushed p r = record { peer_count = r.peer_count; priority = r.priority }

-- ---- from a picker to its buffers
module _ (s : Shape) (records : List Record) (words cells : List ℕ) where
  -- the ranges
  pub ranges_held : InBounds s records words cells → InRange (decode records words cells) → Ranges s.pieces cells
  ranges_held r g =
      let there : (i : ℕ) → i < s.pieces → i < pieces_in (decode records words cells) = λ i h.
      rw (pieces_number s records words cells r) h in
      record {
        peer_count = λ i h. rw (← peer_count_is s records words cells r i h) (g i (there i h)).peer_count;
        priority = λ i h. rw (← priority_is s records words cells r i h) (g i (there i h)).priority;
      }

  -- the bounds
  pub list_bounds : InBounds s records words cells → InRange (decode records words cells) → ListBounds s words cells
  list_bounds r g =
      record { spans = r.spans; pieces = r.pieces; list = r.list; idle = r.idle; ranges = ranges_held r g }

  -- ranks that are right beside some records are so beside all
  pub ranks_right : RanksHeld s.pieces words (rank (decode records words cells)) → RanksRight s words cells
  unfolding rank piece_at
  ranks_right h records' = h

-- ---- one piece changed
-- with its old rank a picker has the ranks of then
former_was : (d d' : Picker) (i : ℕ) → Alone i d d' → former (rank d') (rank d i) i ≡ rank d
unfolding former
former_was d d' i a = fun_ext (λ k. elim (ℕ_discrete k i) [
  | yes e ↦ rw (eq-eqb k i e, e)
  | no e ↦ rw (ne_eqb k i e) (a.ranks k e)
])

-- a right list was right before the change
listed_before : (d d' : Picker) (i : ℕ) → Alone i d d' → ListingOk d → ListingOf (former (rank d') (rank d i) i) (pieces_in d') d'.listing
unfolding ListingOk
listed_before d d' i a g =
    subst (λ (r : ℕ → ℕ). ListingOf r (pieces_in d') d'.listing) (sym (former_was d d' i a))
    (subst (λ (n : ℕ). ListingOf (rank d) n d'.listing) (sym a.many)
    (subst (ListingOf (rank d) (pieces_in d)) (sym a.listing) g))

-- neither the list nor the ranks depend on the records
listing_any : (records records' : List Record) (words cells : List ℕ) (old i : ℕ)
    → ListingOf (former (rank (decode records words cells)) old i) (pieces_in (decode records words cells))
    (decode records words cells).listing
    → ListingOf (former (rank (decode records' words cells)) old i) (pieces_in (decode records' words cells))
    (decode records' words cells).listing
unfolding rank piece_at pieces_in
listing_any records records' words cells old i g = g

held_any : (n : ℕ) (records records' : List Record) (words cells : List ℕ) (old i : ℕ)
    → RanksHeld n words (former (rank (decode records words cells)) old i)
    → RanksHeld n words (former (rank (decode records' words cells)) old i)
unfolding rank piece_at
held_any n records records' words cells old i g = g

-- where nothing that the list depends on changed but piece i, and the list's words stayed: what mending asks of the list
pub list_before : (s : Shape) (records records' : List Record) (words words' cells cells' : List ℕ) (i : ℕ)
    → Alone i (decode records words cells) (decode records' words' cells') → ListKept s words words' → head_word words 6 ≤ s.pieces
    → ListingOk (decode records words cells) → RanksHeld s.pieces words (rank (decode records words cells))
    → ListBefore s words' cells' (rank (decode records words cells) i) i
list_before s records records' words words' cells cells' i a kept room ok held =
    let d = decode records words cells in
    let d' = decode records' words' cells' in
    let h = subst (RanksHeld s.pieces words') (sym (former_was d d' i a)) (ranks_kept s words words' (rank d) kept room held) in
    record {
      order = λ records''. listing_any records' records'' words' cells' (rank d i) i (listed_before d d' i a ok);
      ranks = λ records''. held_any s.pieces records' records'' words' cells' (rank d i) i h;
    }

-- what `update` asks
pub record Updatable (s : Shape) (words cells : List ℕ) (old i : ℕ) : Type 0 where
  pub bounds : ListBounds s words cells
  pub before : ListBefore s words cells old i

-- after a change that left of all that the list depends on all but piece i, from a picker whose list was right
pub updatable : (s : Shape) (f : Picker → Picker) (records : List Record) (words words' cells cells' : List ℕ) (i : ℕ)
    → InBounds s records words cells → ListingOk (decode records words cells)
    → RanksHeld s.pieces words (rank (decode records words cells))
    → Became s f records words cells words' cells' → ListKept s words words'
    → Alone i (decode records words cells) (f (decode records words cells)) → InRange (f (decode records words cells))
    → Updatable s words' cells' (rank (decode records words cells) i) i
updatable s f records words words' cells cells' i r ok held b kept a g =
    let d = decode records words cells in
    record {
      bounds = list_bounds s records words' cells' b.bounds (subst InRange (sym b.is) g);
      before = list_before s records records words words' cells cells' i (subst (Alone i d) (sym b.is) a) kept r.list ok held;
    }

-- from a well-formed picker, after a store of one field of piece i
module _ (s : Shape) (records : List Record) (words cells cells' : List ℕ) (i : ℕ) (r : InBounds s records words cells)
    (ok : well_formed (decode records words cells) ≡ true) (held : RanksHeld s.pieces words (rank (decode records words cells)))
    (h : i < s.pieces) where
  abbrev AfterStore : Type 0
  AfterStore = Updatable s words cells' (rank (decode records words cells) i) i

  own : PieceInRange (piece_at (decode records words cells) i)
  own = well_formed_range (decode records words cells) ok i (rw (pieces_number s records words cells r) h)

  -- any that leaves the piece in range
  pub updatable_field : (g : Piece → Piece) → CellsBecame s (with_piece i g) cells cells'
      → PieceInRange (g (piece_at (decode records words cells) i)) → AfterStore
  updatable_field g c o =
      let d = decode records words cells in
      updatable s (with_piece i g) records words words cells cells' i r (well_formed_sound d ok).list held (c.became records words r)
      (list_kept_none s words) (alone_piece i g d) (range_piece i g d (well_formed_range d ok) o)

  pub updatable_peers : (n : ℕ) → n ≤ max_peers → CellsBecame s (with_piece i (with_peer_count n)) cells cells' → AfterStore
  updatable_peers n l c = updatable_field (with_peer_count n) c (range_peers n _ l own)

  pub updatable_priority : (n : ℕ) → n ≤ max_priority → CellsBecame s (with_piece i (with_priority n)) cells cells' → AfterStore
  updatable_priority n l c = updatable_field (with_priority n) c (range_priority n _ l own)

  pub updatable_state : (q : DownloadQueue) → CellsBecame s (with_piece i (with_state q)) cells cells' → AfterStore
  updatable_state q c = updatable_field (with_state q) c (range_state q _ own)

  pub updatable_flushed : CellsBecame s (with_piece i with_flushed) cells cells' → AfterStore
  updatable_flushed c = updatable_field with_flushed c (range_flushed _ own)

-- ---- both together
pub moved_became : (s : Shape) (f : Picker → Picker) (records : List Record) (words words' words'' cells cells' draws : List ℕ)
    (old i used next : ℕ)
    → old ≡ rank (decode records words cells) i → Became s f records words cells words' cells'
    → ListBecame s (update draws old i) words' words'' cells' used next
    → Became s (λ d. (change_and_update draws i f (drawing used d)).picker) records words cells words'' cells'
    × (next ≡ (change_and_update draws i f (drawing used (decode records words cells))).used)
unfolding change_and_update no_draw drawing
moved_became s f records words words' words'' cells cells' draws old i used next e b l =
    let d = decode records words cells in
    let h : update draws old i (drawing used (f d)) ≡ change_and_update draws i f (drawing used d) =
    ap (λ (v : ℕ). update draws v i (drawing used (f d))) e in (
      became_named s (λ x. (update draws old i (drawing used (f x))).picker) (λ x. (change_and_update draws i f (drawing used x)).picker)
          records words cells words'' cells' (ap (λ (w : Drawing). w.picker) h)
          (became_again s f (λ x. (update draws old i (drawing used x)).picker) records words cells words' cells' words'' cells' b
          (l.became.became records b.bounds)),
      l.next_is records ∙ ap (λ (x : Picker). (update draws old i (drawing used x)).used) b.is ∙ ap (λ (w : Drawing). w.used) h,
    )

-- after mending, the list is right again
pub mended_ok : (s : Shape) (records : List Record) (words words' cells draws : List ℕ) (old i used next : ℕ)
    → InBounds s records words cells → i < s.pieces → ListBefore s words cells old i
    → ListBecame s (update draws old i) words words' cells used next → ListingOk (decode records words' cells)
unfolding drawing
mended_ok s records words words' cells draws old i used next r h g l =
    let d = decode records words cells in
    subst ListingOk (sym (l.became.became records r).is)
    (update_keeps (former (rank d) old i) draws old i (drawing used d) (λ k e. sym (former_other (rank d) old i k e))
    (sym (former_same (rank d) old i)) (rw (pieces_number s records words cells r) h) (g.order records))

-- ---- a place of the list
-- a piece stands there
pub place_there : (d : Picker) → ListingOk d → (k : ℕ) → k < len (list_of d.listing) → nth 0 (list_of d.listing) k < pieces_in d
unfolding ListingOk list_of len
place_there d g k h = go d.listing g h
  where
    go : (l : Listing) → ListingOf (rank d) (pieces_in d) l → k < length (list_of l) → nth 0 (list_of l) k < pieces_in d
    go dirty g h = absurd (omega arith)
    go (fresh l) g h = listed_at_lt (rank d) (pieces_in d) l g k h
