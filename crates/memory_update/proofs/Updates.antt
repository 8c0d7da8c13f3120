-- The list mended in its places is the picker's list mended. Assumes nothing.
use mathlib.Core.Path.{◌≡◌, refl, sym, ap, ap₂, ◌∙◌, subst}
use mathlib.Core.Bool.{true, false, true≢false}
use mathlib.Core.List.{List, []}
use Prim.Native.Nat.{ℕ, ◌+◌, ◌≤◌, ◌<◌}
use native.Mathlib.Omega.{arith}
use lib.Dec.{eqb}
use lib.ListN.{length, take, drop, set, length-append, length-map, take-append-drop}
use lib.Seq.{length-take-le}
use Rattle.model.specs.Lists.{bit, len}
use Rattle.model.specs.State.{Picker, Listing, dirty, fresh, is_dirty, pieces_in, with_listing}
use Rattle.model.specs.list.Listed.{Listed, ListingOf}
use Rattle.model.specs.list.Order.{rank, updated, update_draws, drawing, update, update_in}
use Rattle.memory_records.specs.declared.record.DownloadingPiece.{DownloadingPiece as Record}
use Rattle.memory_layout.specs.declared.shape.Shape.{Shape}
use Rattle.memory_layout.specs.Offsets.{piece_word_at}
use Rattle.memory_layout.specs.Decode.{head_word, yes?, list_held, decode}
use Rattle.list_entries.specs.Words.{listed_piece, pieces_of, RanksIn}
use Rattle.list_words.specs.Updating.{former, Ready, IsUpdated, Updates}
use Rattle.list_words.proofs.Natural.{pieces_map}
use Rattle.list_words.proofs.Mending.{former_same}
use Rattle.list_words.proofs.Listing.{listed_ready, listed_room}
use Rattle.memory_ranks.specs.CellRanks.{IsRankAt}
use Rattle.memory_list.specs.Listings.{ListBounds, ListBefore, ListBecame}
use Rattle.memory_list.proofs.Regions.{lent_at, back_at, part_long, front_pieces, front_ranks, part_stored, flag_is, list_clean}
use Rattle.memory_list.proofs.Regions.{pieces_many, list_stored, list_left}

-- ---- the model
-- a fresh list mended
update_clean : (draws : List ℕ) (old i used : ℕ) (d : Picker) (l : List ℕ) → d.listing ≡ fresh l
    → update draws old i (drawing used d)
    ≡ drawing (used + update_draws (rank d) old i l) (with_listing (fresh (updated (rank d) draws used old i l)) d)
unfolding update update_in drawing
update_clean draws old i used d l e = ap (λ (k : Listing). update_in k draws old i (drawing used d)) e

-- a dirty one left
update_dirty : (draws : List ℕ) (old i used : ℕ) (d : Picker) → is_dirty d.listing ≡ true
    → update draws old i (drawing used d) ≡ drawing used d
unfolding update update_in drawing is_dirty
update_dirty draws old i used d e = go d.listing e
  where
    go : (k : Listing) → is_dirty k ≡ true → update_in k draws old i (drawing used d) ≡ drawing used d
    go dirty e = refl
    go (fresh l) e = absurd (true≢false (sym e))

-- ---- a list that is not dirty
module _ (s : Shape) (words cells : List ℕ) (q : ListBounds s words cells) (old i : ℕ) (h : i < s.pieces)
    (g : ListBefore s words cells old i) (clean : yes? (head_word words 5) ≡ false) (a : ℕ) (ea : a ≡ piece_word_at s.pieces 1 0)
    (n : ℕ) (en : n ≡ head_word words 6) where
  abbrev ws : List ℕ
  ws = take n (lent_at a s.pieces words)

  pieces_are : pieces_of ws ≡ list_held words s.pieces
  pieces_are = front_pieces s words q.spans.in_words a ea n en q.list

  module _ (records : List Record) where
    abbrev d : Picker
    d = decode records words cells

    listing_is : d.listing ≡ fresh (pieces_of ws)
    listing_is = list_clean s records words cells q.pieces clean ∙ ap fresh (sym pieces_are)

    order : Listed (former (rank d) old i) s.pieces (pieces_of ws)
    order =
        subst (λ (m : ℕ). Listed (former (rank d) old i) m (pieces_of ws)) (pieces_many s records words cells q.pieces)
        (subst (ListingOf (former (rank d) old i) (pieces_in d)) listing_is (g.order records))

    ranks_in : RanksIn (former (rank d) old i) ws
    ranks_in = front_ranks s words q.spans.in_words a ea n en q.list (former (rank d) old i) (g.ranks records)

    ready : Ready old i ws
    ready =
        subst (λ (v : ℕ). Ready v i ws) (former_same (rank d) old i)
        (listed_ready (former (rank d) old i) (rank d) s.pieces i ws order ranks_in h (omega (arith, q.spans.in_words.sizes.many)))

    room : length ws + bit (eqb old 0) ≤ s.pieces
    room =
        subst (λ (v : ℕ). length ws + bit (eqb v 0) ≤ s.pieces) (former_same (rank d) old i)
        (listed_room (former (rank d) old i) (rank d) s.pieces i ws order ranks_in h s.pieces (omega arith))

  -- as the code has the piece and its old rank
  module _ (piece was new : ℕ) (ep : piece ≡ i) (ew : was ≡ old) (r : IsRankAt s words cells i new) where
    -- what the mending asks
    pub update_asks : old < 65536 → (used many : ℕ) → used ≤ many
        → (n + bit (eqb was 0) ≤ length (lent_at a s.pieces words))
        × ((piece < 65536) × ((was < 65536) × ((new < 65536) × (Ready was piece (take n (lent_at a s.pieces words)) × (used ≤ many)))))
    update_asks low used many drawn =
        let long = part_long s words q.spans.in_words a ea in
        let m = length-take-le n (lent_at a s.pieces words) (omega (arith, long, q.list)) in (
          rw (ew, long) (omega (arith, room [], m)),
          (
            omega (arith, q.spans.in_words.sizes.many),
            (omega arith, (omega (arith, r.low), (rw (ew, ep) (ready []), drawn))),
          ),
        )

    -- what it leaves
    module _ (draws : List ℕ) (used : ℕ) (part : List ℕ) (m next : ℕ) (long : length part ≡ length (lent_at a s.pieces words))
        (b : Updates new draws used was piece (take n (lent_at a s.pieces words)) (lent_at a s.pieces words) part m next) where
      module _ (records : List Record) where
        done : IsUpdated (rank (d records)) draws used old i ws (lent_at a s.pieces words) part m next
        done =
            (rw (ew, ep) at b) (rank (d records)) (sym (r.is q.pieces records)) (ranks_in records)

        -- the model's mending
        step_is : update draws old i (drawing used (d records)) ≡ drawing next (with_listing (fresh (pieces_of (take m part))) (d records))
        step_is =
            update_clean draws old i used (d records) (pieces_of ws) (listing_is records)
            ∙ ap₂ (λ (u : ℕ) (l : List ℕ). drawing u (with_listing (fresh l) (d records))) (sym done.next_is) (sym done.pieces)

      few : m ≤ s.pieces
      unfolding len
      few =
          let e : m ≡ length (take m part) = (done []).length ∙ ap length (sym (done []).pieces) ∙ ap length (pieces_map (take m part))
          ∙ length-map (take m part) listed_piece in
          let f = sym (length-append (take m part) (drop m part)) ∙ ap length (take-append-drop m part) in
          omega (arith, e, f, long, part_long s words q.spans.in_words a ea)

      pub list_mended : (words' : List ℕ) → words' ≡ set (set (back_at a s.pieces words part) 6 m) 5 0
          → ListBecame s (update draws old i) words words' cells used next
      list_mended words' e =
          list_stored s (update draws old i) words cells used words' part m next
          (part_stored s words q.spans.in_words a ea part long m few words' e) q.pieces step_is (λ records. (done records).ranks)

-- ---- a dirty list
pub list_dirty : (s : Shape) (words cells : List ℕ) → ListBounds s words cells → (draws : List ℕ) (old i used : ℕ)
    → yes? (head_word words 5) ≡ true
    → ListBecame s (update draws old i) words words cells used used
list_dirty s words cells q draws old i used e =
    list_left s (update draws old i) words cells used
    (λ records. update_dirty draws old i used (decode records words cells) (flag_is records words cells ∙ e))
    (λ records k h. absurd (omega (arith, q.idle e)))
