-- The list's places lent as a slice of their own and put back: what they hold, and what becomes of the picker. Assumes nothing.
use mathlib.Core.Path.{◌≡◌, refl, sym, ap, ap₂, ◌∙◌, fun_ext}
use mathlib.Core.Bool.{Bool, true, false, cond}
use mathlib.Core.List.{List, []}
use Prim.Native.Nat.{ℕ, ◌+◌, ◌-◌, ◌%◌, ◌≤◌, ◌<◌}
use native.Mathlib.Omega.{arith}
use lib.ListN.{length, get_or, take, set}
use lib.Seq.{get_or-take, length-take-le}
use borrow.Rule.Slice.PartMut.{put_mid, mid_of}
use Rattle.model.specs.Lists.{nth}
use Rattle.model.specs.Bep3.{num_pieces}
use Rattle.model.specs.State.{dirty, fresh, is_dirty, list_of, pieces_in, with_listing}
use Rattle.model.specs.list.Order.{rank, Drawing, drawing}
use Rattle.model.proofs.list.RankLaws.{rank_same}
use Rattle.memory_records.specs.declared.record.DownloadingPiece.{DownloadingPiece as Record}
use Rattle.memory_layout.specs.declared.shape.Shape.{Shape}
use Rattle.memory_layout.specs.Tables.{front}
use Rattle.memory_layout.specs.Offsets.{cell, piece_word_at}
use Rattle.memory_layout.specs.Decode.{head_word, piece_word, pieces_on, yes?, piece_held, pieces_held, list_held, listing_held, decode}
use Rattle.memory_layout.specs.Bounds.{Sizes, WordsSpan, RanksHeld}
use Rattle.memory_layout.proofs.TableLaws.{tabulate-len, tabulate-each}
use Rattle.memory_layout.proofs.OffsetLaws.{words_from, head_in}
use Rattle.memory_layout.proofs.Meanings.{listed_is}
use Rattle.memory_layout.proofs.Parts.{pieces_same}
use Rattle.memory_layout.proofs.BoundsLaws.{cells_kept_none, became_named, became_none, words_kept_none}
use Rattle.memory_layout.proofs.stores.ListStores.{part_put_long, lent_long, lent_word, ListPut, list_became, list_ranks, list_put}
use Rattle.list_entries.specs.Words.{listed_piece, pieces_of, RanksIn}
use Rattle.list_words.proofs.Listing.{ranks_places}
use Rattle.memory_fields.specs.Reading.{HeadSays, WordsSay}
use Rattle.memory_list.specs.Listings.{RanksRight, ListBecame}

-- n words from a on, and all words with others in their place
abbrev pub lent_at : ℕ → ℕ → List ℕ → List ℕ
lent_at a n words = mid_of a (a + n - a) words

abbrev pub back_at : ℕ → ℕ → List ℕ → List ℕ → List ℕ
back_at a n words part = put_mid a (a + n - a) words part

-- the piece at a place
pub place_read : (s : Shape) (words : List ℕ) (k : ℕ) → k < head_word words 6 → (r w : ℕ) → r ≡ w % 65536
    → w ≡ piece_word words s.pieces 1 k → WordsSay s words (λ d. nth 0 (list_of d.listing) k) r
unfolding listed_piece
place_read s words k h r w e f =
    record { is = λ records cells q. e ∙ ap (λ (x : ℕ). x % 65536) f ∙ sym (listed_is s records words cells q k h) }

-- where the places start
pub part_start : (s : Shape) → Sizes s → (a : ℕ) → a ≡ piece_word_at s.pieces 1 0 → (a ≡ 16 + s.pieces) × (s.pieces ≤ 4096)
unfolding piece_word_at cell
part_start s z a e = (omega arith, z.many)

-- ---- the places lent
module _ (s : Shape) (words : List ℕ) (r : WordsSpan s words) (a : ℕ) (ea : a ≡ piece_word_at s.pieces 1 0) where
  many : a + s.pieces - a ≡ s.pieces
  many = omega arith

  -- they are within the words
  pub part_fits : a + s.pieces ≤ length words
  unfolding piece_word_at cell
  part_fits = omega (arith, words_from s.pieces s.blocks, r.long)

  part_is : lent_at a s.pieces words ≡ mid_of (piece_word_at s.pieces 1 0) s.pieces words
  part_is = ap₂ (λ (j k : ℕ). mid_of j k words) ea many

  -- one for each piece
  pub part_long : length (lent_at a s.pieces words) ≡ s.pieces
  part_long = ap length part_is ∙ lent_long s words r s.pieces (omega arith)

  -- the words of the list
  part_word : (k : ℕ) → k < s.pieces → get_or (lent_at a s.pieces words) k 0 ≡ piece_word words s.pieces 1 k
  part_word k h = ap (λ (l : List ℕ). get_or l k 0) part_is ∙ lent_word s words r s.pieces (omega arith) k h

  module _ (n : ℕ) (en : n ≡ head_word words 6) (room : head_word words 6 ≤ s.pieces) where
    front_long : length (take n (lent_at a s.pieces words)) ≡ n
    front_long = length-take-le n (lent_at a s.pieces words) (omega (arith, part_long))

    front_word : (k : ℕ) → k < n → get_or (take n (lent_at a s.pieces words)) k 0 ≡ piece_word words s.pieces 1 k
    front_word k h = get_or-take n (lent_at a s.pieces words) k 0 h ∙ part_word k (omega arith)

    -- in front stand the pieces of the list
    pub front_pieces : pieces_of (take n (lent_at a s.pieces words)) ≡ list_held words s.pieces
    unfolding pieces_of list_held
    front_pieces =
        rw (← en)
        (sym (tabulate-each listed_piece (take n (lent_at a s.pieces words)) n (λ k. listed_piece (piece_word words s.pieces 1 k))
        front_long (λ k h. ap listed_piece (sym (front_word k h)))))

    -- with the ranks beside them
    pub front_ranks : (g : ℕ → ℕ) → RanksHeld s.pieces words g → RanksIn g (take n (lent_at a s.pieces words))
    front_ranks g h =
        (ranks_places g (take n (lent_at a s.pieces words))).1 (λ k l.
        let m : k < n = omega (arith, front_long) in
        rw (front_word k m) (h k (omega arith)))

  -- put back, they leave the head in reach
  pub back_head : (part : List ℕ) → length part ≡ length (lent_at a s.pieces words) → 16 ≤ length (back_at a s.pieces words part)
  back_head part long =
      omega (
        arith,
        part_put_long a (a + s.pieces - a) words part (omega (arith, part_fits)) (omega (arith, long, part_long)),
        head_in s words r,
      )

  -- put back, with the length stored: the list
  pub part_stored : (part : List ℕ) → length part ≡ length (lent_at a s.pieces words) → (m : ℕ) → m ≤ s.pieces → (words' : List ℕ)
      → words' ≡ set (set (back_at a s.pieces words part) 6 m) 5 0 → ListPut s words words' (front m part)
  part_stored part long m few words' e =
      let back : back_at a s.pieces words part ≡ put_mid (piece_word_at s.pieces 1 0) s.pieces words part =
      ap₂ (λ (j k : ℕ). put_mid j k words part) ea many in
      rw (e, back) (list_put s words r s.pieces (omega arith) part (long ∙ part_long) m few)

-- ---- the picker's list
-- dirty by its word
pub flag_is : (records : List Record) (words cells : List ℕ) → is_dirty (decode records words cells).listing ≡ yes? (head_word words 5)
unfolding listing_held is_dirty
flag_is records words cells = go (yes? (head_word words 5)) _
  where
    go : (t : Bool) (l : List ℕ) → is_dirty (cond t dirty (fresh l)) ≡ t
    go true l = refl
    go false l = refl

-- as it is read
pub flag_read : (words : List ℕ) (r t : Bool) → HeadSays words (λ d. is_dirty d.listing) r → r ≡ t → yes? (head_word words 5) ≡ t
flag_read words r t h e = sym (flag_is [] words []) ∙ sym (h.is [] []) ∙ e

-- fresh by its word
pub list_clean : (s : Shape) (records : List Record) (words cells : List ℕ) → s.pieces ≡ pieces_on words → yes? (head_word words 5) ≡ false
    → (decode records words cells).listing ≡ fresh (list_held words s.pieces)
unfolding listing_held
list_clean s records words cells e clean = ap₂ (λ (t : Bool) (n : ℕ). cond t dirty (fresh (list_held words n))) clean (sym e)

-- as many pieces as the shape has
pub pieces_many : (s : Shape) (records : List Record) (words cells : List ℕ) → s.pieces ≡ pieces_on words
    → pieces_in (decode records words cells) ≡ s.pieces
unfolding pieces_in pieces_held
pieces_many s records words cells e = tabulate-len (pieces_on words) (piece_held words cells (pieces_on words)) ∙ sym e

-- ---- a step of the picker and its draws that leaves all but the list
module _ (s : Shape) (step : Drawing → Drawing) (words cells : List ℕ) (used : ℕ) where
  -- done by a list put in place with its ranks
  module _ (words' part : List ℕ) (m next : ℕ) (p : ListPut s words words' (front m part)) (e : s.pieces ≡ pieces_on words)
      (is : (records : List Record) → step (drawing used (decode records words cells))
      ≡ drawing next (with_listing (fresh (pieces_of (take m part))) (decode records words cells)))
      (ranks : (records : List Record) → RanksIn (rank (decode records words cells)) (take m part)) where
    pieces_stay : (records : List Record) → (decode records words' cells).pieces ≡ (decode records words cells).pieces
    unfolding pieces_on
    pieces_stay records =
        ap₂ (λ (t z : ℕ). pieces_held words' cells (num_pieces t z)) p.beside.kept.total_size p.beside.kept.piece_size
        ∙ pieces_same words words' cells cells (num_pieces (head_word words 0) (head_word words 1)) (λ f k l h. refl)
        (rw e at p.beside.pads)

    ranks_stay : (records : List Record) → rank (decode records words' cells) ≡ rank (decode records words cells)
    ranks_stay records =
        fun_ext (λ i.
        rank_same (decode records words cells) (decode records words' cells)
        (p.beside.head 2 (omega arith) (λ q. omega arith) (λ q. omega arith)) (pieces_stay records) i)

    held : (records : List Record) → RanksHeld s.pieces words' (rank (decode records words cells))
    unfolding front
    held records =
        list_ranks s words words' (front m part) p (rank (decode records words cells))
        ((ranks_places (rank (decode records words cells)) (take m part)).0 (ranks records))

    same : (records : List Record) → with_listing (fresh (pieces_of (take m part))) (decode records words cells)
        ≡ (step (drawing used (decode records words cells))).picker
    unfolding drawing
    same records = sym (ap (λ (w : Drawing). w.picker) (is records))

    next_same : (records : List Record) → next ≡ (step (drawing used (decode records words cells))).used
    unfolding drawing
    next_same records = sym (ap (λ (w : Drawing). w.used) (is records))

    pub list_stored : ListBecame s step words words' cells used next
    unfolding front pieces_of
    list_stored =
        let b = list_became s words words' (front m part) p in
        record {
          became = record {
            words_kept = b.kept;
            cells_kept = cells_kept_none s cells;
            became = λ records r.
                became_named s (with_listing (fresh (pieces_of (take m part)))) (λ d. (step (drawing used d)).picker) records words cells
                words' cells (same records) (b.became records cells r);
          };
          next_is = next_same;
          ranks = λ records. rw (ranks_stay records) (held records);
        }

  -- done by nothing
  pub list_left : ((records : List Record) → step (drawing used (decode records words cells)) ≡ drawing used (decode records words cells))
      → RanksRight s words cells → ListBecame s step words words cells used used
  unfolding drawing
  list_left is ranks =
      record {
        became = record {
          words_kept = words_kept_none s words;
          cells_kept = cells_kept_none s cells;
          became = λ records r.
              became_named s (λ d. d) (λ d. (step (drawing used d)).picker) records words cells words cells
              (sym (ap (λ (w : Drawing). w.picker) (is records))) (became_none s records words cells r);
        };
        next_is = λ records. sym (ap (λ (w : Drawing). w.used) (is records));
        ranks = ranks;
      }
