-- What stores in the list do to the picker: the list replaced, the list dirty; and the ranks beside it. Assumes nothing.
use mathlib.Core.Path.{◌≡◌, refl, sym, ap, ap₂, ◌∙◌}
use mathlib.Core.Logic.{◌≢◌}
use mathlib.Core.Bool.{false, true≢false, cond}
use mathlib.Core.List.{List, ◌++◌}
use Prim.Native.Nat.{ℕ, ◌+◌, ◌-◌, ◌*◌, ◌≤◌, ◌<◌}
use native.Mathlib.Omega.{arith}
use lib.ListN.{length, get_or, take, drop, set, length-set, length-append, length-drop, get_or-append}
use lib.Seq.{get_or-take, get_or-drop, length-take-le, get_or-append-add}
use borrow.Rule.Slice.PartMut.{put_mid, mid_of, post_of}
use Rattle.model.specs.Lists.{each}
use Rattle.model.specs.State.{Listing, dirty, fresh, list_of, with_listing, mark_dirty}
use Rattle.list_entries.specs.Words.{listed_piece, listed_rank}
use Rattle.memory_records.specs.declared.record.DownloadingPiece.{DownloadingPiece as Record}
use Rattle.memory_layout.specs.declared.shape.Shape.{Shape}
use Rattle.memory_layout.specs.Tables.{tabulate, front}
use Rattle.memory_layout.specs.Offsets.{cell, piece_word_at, peer_at}
use Rattle.memory_layout.specs.Decode.{head_word, piece_word, peer_word, yes?, list_held, listing_held, decode_at}
use Rattle.memory_layout.specs.Decode.{decode}
use Rattle.memory_layout.specs.Bounds.{WordsSpan, InBounds, RanksHeld}
use Rattle.memory_layout.specs.Stores.{WordsKept, WordsBecame}
use Rattle.memory_layout.specs.Frames.{SameHead, SameColumn, SamePeers}
use Rattle.memory_layout.proofs.TableLaws.{tabulate-each}
use Rattle.memory_layout.proofs.OffsetLaws.{peer_from, words_from, head_in}
use Rattle.memory_layout.proofs.Same.{head_other}
use Rattle.memory_layout.proofs.Parts.{pieces_same, extents_same}
use Rattle.memory_layout.proofs.Meanings.{list_is}
use Rattle.memory_layout.proofs.BoundsLaws.{words_became, partials_stay}
use Rattle.memory_layout.proofs.stores.HeadStores.{behind_none, behind_store}
use Rattle.memory_layout.proofs.stores.ExtentStores.{head_read}

-- ---- a part of a buffer put back
module _ (a k : ℕ) (xs ys : List ℕ) (fits : a + k ≤ length xs) (long : length ys ≡ k) where
  front_long : length (take a xs) ≡ a
  front_long = length-take-le a xs (omega arith)

  -- in front of it all is as it was
  pub part_below : (j : ℕ) → j < a → get_or (put_mid a k xs ys) j 0 ≡ get_or xs j 0
  part_below j h = get_or-append (take a xs) (ys ++ post_of a k xs) 0 j (rw front_long h) ∙ get_or-take a xs j 0 h

  -- within it stands what was put back
  pub part_within : (i : ℕ) → i < k → get_or (put_mid a k xs ys) (a + i) 0 ≡ get_or ys i 0
  part_within i h =
      ap (λ (m : ℕ). get_or (put_mid a k xs ys) (m + i) 0) (sym front_long)
      ∙ get_or-append-add (take a xs) (ys ++ post_of a k xs) i 0 ∙ get_or-append ys (post_of a k xs) 0 i (rw long h)

  -- behind it all is as it was
  pub part_above : (j : ℕ) → a + k ≤ j → get_or (put_mid a k xs ys) j 0 ≡ get_or xs j 0
  part_above j h =
      let i = j - (a + k) in
      let e : j ≡ length (take a xs) + (length ys + i) = omega (arith, front_long) in
      let q : a + (k + i) ≡ j = omega arith in
      ap (λ (m : ℕ). get_or (put_mid a k xs ys) m 0) e
      ∙ get_or-append-add (take a xs) (ys ++ post_of a k xs) (length ys + i) 0
      ∙ get_or-append-add ys (post_of a k xs) i 0
      ∙ get_or-drop k (drop a xs) i 0 ∙ get_or-drop a xs (k + i) 0 ∙ ap (λ (m : ℕ). get_or xs m 0) q

  -- and the buffer keeps its length
  pub part_put_long : length (put_mid a k xs ys) ≡ length xs
  part_put_long = simp (length-append, length-drop) (omega (arith, front_long))

-- ---- a part of the list lent
module _ (s : Shape) (words : List ℕ) (r : WordsSpan s words) (k : ℕ) (room : k ≤ s.pieces) where
  -- it has its length
  pub lent_long : length (mid_of (piece_word_at s.pieces 1 0) k words) ≡ k
  unfolding piece_word_at cell
  lent_long =
      length-take-le k (drop (piece_word_at s.pieces 1 0) words) (rw (length-drop (piece_word_at s.pieces 1 0) words)
      (omega (arith, words_from s.pieces s.blocks, r.long)))

  -- and the words of the list
  pub lent_word : (i : ℕ) → i < k → get_or (mid_of (piece_word_at s.pieces 1 0) k words) i 0 ≡ piece_word words s.pieces 1 i
  unfolding piece_word piece_word_at cell
  lent_word i h =
      get_or-take k (drop (piece_word_at s.pieces 1 0) words) i 0 h ∙ get_or-drop (piece_word_at s.pieces 1 0) words i 0
      ∙ ap (λ (j : ℕ). get_or words j 0) (omega arith)

module _ (s : Shape) (records : List Record) (words cells : List ℕ) (r : InBounds s records words cells) where
  -- the list lent whole has the pieces of the picker's list
  pub list_lent : each listed_piece (mid_of (piece_word_at s.pieces 1 0) (head_word words 6) words)
      ≡ list_of (decode records words cells).listing
  unfolding list_held
  list_lent =
      let k = head_word words 6 in
      sym (tabulate-each listed_piece (mid_of (piece_word_at s.pieces 1 0) k words) k (λ i. listed_piece (piece_word words s.pieces 1 i))
      (lent_long s words r.spans.in_words k r.list) (λ i h.
      ap listed_piece (sym (lent_word s words r.spans.in_words k r.list i h))))
      ∙ sym (list_is s records words cells r)

  -- and the ranks beside them
  pub lent_ranks : (g : ℕ → ℕ) → RanksHeld s.pieces words g → (i : ℕ) → i < head_word words 6
      → listed_rank (get_or (mid_of (piece_word_at s.pieces 1 0) (head_word words 6) words) i 0)
      ≡ g (listed_piece (get_or (mid_of (piece_word_at s.pieces 1 0) (head_word words 6) words) i 0))
  lent_ranks g h i l = rw (lent_word s words r.spans.in_words (head_word words 6) r.list i l) (h i l)

-- ---- all words but the list and its two words of the head as they were
pub record Beside (s : Shape) (words words' : List ℕ) : Type 0 where
  pub kept : WordsKept s words words'
  pub head : (k : ℕ) → k < 16 → k ≢ 5 → k ≢ 6 → head_word words' k ≡ head_word words k
  pub pads : SameColumn s.pieces 0 words words'
  pub peers : SamePeers s.pieces s.blocks words words'

-- after one store more in the two words
pub beside_store : (s : Shape) (words words' : List ℕ) (k v : ℕ) → 5 ≤ k → k ≤ 6 → Beside s words words' → Beside s words (set words' k v)
beside_store s words words' k v low high b =
    let c = behind_store s words' words' k v (omega arith) (behind_none s words') in
    record {
      kept = record {
        long = c.long ∙ b.kept.long;
        total_size = head_other words' k v 0 (λ e. omega arith) ∙ b.kept.total_size;
        piece_size = head_other words' k v 1 (λ e. omega arith) ∙ b.kept.piece_size;
        beyond = λ i h. c.beyond i h ∙ b.kept.beyond i h;
      };
      head = λ i h m o. head_other words' k v i (λ e. either i m o e) ∙ b.head i h m o;
      pads = λ i h. c.columns 0 (omega arith) i h ∙ b.pads i h;
      peers = λ p j h l. c.peers p j h l ∙ b.peers p j h l;
    }
  where
    either : (i : ℕ) → i ≢ 5 → i ≢ 6 → i ≡ k → ⊥
    either i m o e = omega arith

-- after a part of the list is put back
module _ (s : Shape) (words : List ℕ) (r : WordsSpan s words) (k : ℕ) (room : k ≤ s.pieces) (part : List ℕ) (long : length part ≡ k) where
  -- the words after it
  abbrev pub put_back : List ℕ
  put_back = put_mid (piece_word_at s.pieces 1 0) k words part

  start : piece_word_at s.pieces 1 0 ≡ 16 + s.pieces
  unfolding piece_word_at cell
  start = omega arith

  fits : piece_word_at s.pieces 1 0 + k ≤ length words
  fits = omega (arith, start, words_from s.pieces s.blocks, r.long)

  low : (j : ℕ) → j < 16 + s.pieces → get_or put_back j 0 ≡ get_or words j 0
  low j h = part_below (piece_word_at s.pieces 1 0) k words part fits long j (omega (arith, start))

  high : (j : ℕ) → 16 + 2 * s.pieces ≤ j → get_or put_back j 0 ≡ get_or words j 0
  high j h = part_above (piece_word_at s.pieces 1 0) k words part fits long j (omega (arith, start))

  heads : SameHead words put_back
  unfolding head_word
  heads j h = low j (omega arith)

  pads : SameColumn s.pieces 0 words put_back
  unfolding piece_word piece_word_at cell
  pads i h = low (piece_word_at s.pieces 0 i) (omega arith)

  peers : SamePeers s.pieces s.blocks words put_back
  unfolding peer_word
  peers p j h l = high (peer_at s.pieces s.blocks p j) (peer_from s.pieces s.blocks p j)

  -- all but the list stays
  pub part_beside : Beside s words put_back
  part_beside =
      record {
        kept = record {
          long = part_put_long (piece_word_at s.pieces 1 0) k words part fits long;
          total_size = heads 0 (omega arith);
          piece_size = heads 1 (omega arith);
          beyond = λ j h. high j (omega (arith, words_from s.pieces s.blocks));
        };
        head = λ j h m o. heads j h;
        pads = pads;
        peers = peers;
      }

  -- a word of the list in the part
  pub part_word : (i : ℕ) → i < k → piece_word put_back s.pieces 1 i ≡ get_or part i 0
  unfolding piece_word piece_word_at cell
  part_word i h =
      ap (λ (j : ℕ). get_or put_back j 0) (omega arith) ∙ part_within (piece_word_at s.pieces 1 0) k words part fits long i h

-- ---- a list put in place
-- the list has these words, and is not dirty
pub record ListPut (s : Shape) (words words' list : List ℕ) : Type 0 where
  pub beside : Beside s words words'
  pub long : head_word words' 6 ≡ length list
  pub room : length list ≤ s.pieces
  pub word : (i : ℕ) → i < length list → piece_word words' s.pieces 1 i ≡ get_or list i 0
  pub clean : yes? (head_word words' 5) ≡ false
  pub flag : head_word words 5 ≤ 1 → head_word words' 5 ≤ 1

module _ (s : Shape) (words words' : List ℕ) (b : Beside s words words') where
  -- nothing but the list changed
  pub beside_at_shape : (records : List Record) (cells : List ℕ) → InBounds s records words cells
      → decode_at s.pieces s.blocks records words' cells ≡ with_listing (listing_held words' s.pieces)
      (decode_at s.pieces s.blocks records words cells)
  unfolding with_listing
  beside_at_shape records cells r = λ i. record {
    total_size = b.kept.total_size i;
    piece_size = b.kept.piece_size i;
    seeds = b.head 2 (omega arith) (λ e. omega arith) (λ e. omega arith) i;
    cursor = b.head 3 (omega arith) (λ e. omega arith) (λ e. omega arith) i;
    reverse_cursor = b.head 4 (omega arith) (λ e. omega arith) (λ e. omega arith) i;
    pieces = pieces_same words words' cells cells s.pieces (λ f k l m. refl) b.pads i;
    partials = partials_stay s records words cells r words' cells b.kept.total_size b.kept.piece_size
        (b.head 7 (omega arith) (λ e. omega arith) (λ e. omega arith)) b.peers (λ f p j h l m. refl) i;
    recent_extents = extents_same words words' (b.head 8 (omega arith) (λ e. omega arith) (λ e. omega arith)) (λ k l.
        b.head (9 + k) (omega (arith, r.recent_extents)) (λ e. omega arith) (λ e. omega arith)) i;
    listing = listing_held words' s.pieces;
  }

module _ (s : Shape) (words words' list : List ℕ) (p : ListPut s words words' list) where
  listing_new : listing_held words' s.pieces ≡ fresh (each listed_piece list)
  unfolding listing_held list_held
  listing_new =
      ap₂ (λ (t : _) (l : List ℕ). cond t dirty (fresh l)) p.clean
      (ap (λ (n : ℕ). tabulate n (λ k. listed_piece (piece_word words' s.pieces 1 k))) p.long
      ∙ tabulate-each listed_piece list (length list) (λ k. listed_piece (piece_word words' s.pieces 1 k)) refl
      (λ i h. ap listed_piece (p.word i h)))

  -- the picker has the pieces of those words as its list
  pub list_became : WordsBecame s (with_listing (fresh (each listed_piece list))) words words'
  list_became =
      words_became s (with_listing (fresh (each listed_piece list))) words words' p.beside.kept
      (p.beside.head 7 (omega arith) (λ e. omega arith) (λ e. omega arith))
      (λ h. rw p.long p.room) (λ h e. absurd (true≢false (sym e ∙ p.clean)))
      (λ h. rw (p.beside.head 8 (omega arith) (λ e. omega arith) (λ e. omega arith)) h) p.flag
      (λ records cells r.
      beside_at_shape s words words' p.beside records cells r
      ∙ ap (λ (l : Listing). with_listing l (decode_at s.pieces s.blocks records words cells)) listing_new)

  -- and the ranks that those words have
  pub list_ranks : (r : ℕ → ℕ) → ((i : ℕ) → i < length list → listed_rank (get_or list i 0) ≡ r (listed_piece (get_or list i 0)))
      → RanksHeld s.pieces words' r
  list_ranks r h k l =
      let m : k < length list = omega (arith, p.long) in
      rw (p.word k m) (h k m)

-- ---- stores that put one
module _ (s : Shape) (words : List ℕ) (r : WordsSpan s words) (k : ℕ) (room : k ≤ s.pieces) (part : List ℕ) (long : length part ≡ k) where
  -- the list's places lent and put back, then its length and that it is clean
  pub list_put : (n : ℕ) → n ≤ k → ListPut s words (set (set (put_mid (piece_word_at s.pieces 1 0) k words part) 6 n) 5 0) (front n part)
  unfolding front yes?
  list_put n h =
      let w = put_back s words r k room part long in
      let b = part_beside s words r k room part long in
      let many : length (take n part) ≡ n = length-take-le n part (omega arith) in
      let e5 : head_word (set (set w 6 n) 5 0) 5 ≡ 0 = head_read (set w 6 n) 5 0
      (simp length-set (omega (arith, b.kept.long, head_in s words r))) in
      let c = behind_store s w (set w 6 n) 5 0 (omega arith) (behind_store s w w 6 n (omega arith) (behind_none s w)) in
      record {
        beside = beside_store s words (set w 6 n) 5 0 (omega arith) (omega arith) (beside_store s words w 6 n (omega arith) (omega arith)
            b);
        long = head_other (set w 6 n) 5 0 6 (λ e. omega arith) ∙ head_read w 6 n (omega (arith, b.kept.long, head_in s words r))
            ∙ sym many;
        room = omega (arith, many);
        word = λ i l.
            let o : i < n = omega (arith, many) in
            c.columns 1 (omega arith) i (omega arith) ∙ part_word s words r k room part long i (omega arith)
            ∙ sym (get_or-take n part i 0 o);
        clean = ap yes? e5;
        flag = λ l. rw e5 (omega arith);
      }

-- the list's own places lent and put back, where it is clean
pub list_put_back : (s : Shape) (words : List ℕ) (r : WordsSpan s words) (room : head_word words 6 ≤ s.pieces) (part : List ℕ)
    (long : length part ≡ head_word words 6)
    → yes? (head_word words 5) ≡ false → ListPut s words (put_mid (piece_word_at s.pieces 1 0) (head_word words 6) words part) part
list_put_back s words r room part long clean =
    let k = head_word words 6 in
    let e5 = heads s words r k room part long 5 (omega arith) in
    record {
      beside = part_beside s words r k room part long;
      long = heads s words r k room part long 6 (omega arith) ∙ sym long;
      room = omega arith;
      word = λ i l. part_word s words r k room part long i (omega arith);
      clean = ap yes? e5 ∙ clean;
      flag = λ l. rw e5 l;
    }

-- ---- dirty
module _ (s : Shape) (words : List ℕ) (r : WordsSpan s words) where
  -- no place, and the flag
  abbrev pub marked : List ℕ
  marked = set (set words 6 0) 5 1

  beside : Beside s words marked
  beside =
      beside_store s words (set words 6 0) 5 1 (omega arith) (omega arith) (beside_store s words words 6 0 (omega arith) (omega arith)
      (record {
        kept = record { long = refl; total_size = refl; piece_size = refl; beyond = λ k h. refl };
        head = λ k h m o. refl;
        pads = λ i h. refl;
        peers = λ p j h l. refl;
      }))

  word5 : head_word marked 5 ≡ 1
  word5 = head_read (set words 6 0) 5 1 (simp length-set (omega (arith, head_in s words r)))

  word6 : head_word marked 6 ≡ 0
  word6 = head_other (set words 6 0) 5 1 6 (λ e. omega arith) ∙ head_read words 6 0 (omega (arith, head_in s words r))

  -- the picker has no list
  pub dirty_marked : WordsBecame s mark_dirty words (set (set words 6 0) 5 1)
  unfolding mark_dirty listing_held yes?
  dirty_marked =
      words_became s mark_dirty words marked beside.kept (beside.head 7 (omega arith) (λ e. omega arith) (λ e. omega arith))
      (λ h. rw word6 (omega arith)) (λ h e. word6) (λ h. rw (beside.head 8 (omega arith) (λ e. omega arith) (λ e. omega arith)) h)
      (λ h. rw word5 (omega arith))
      (λ records cells q.
      beside_at_shape s words marked beside records cells q
      ∙ ap (λ (w : ℕ). with_listing (cond (yes? w) dirty (fresh (list_held marked s.pieces))) (decode_at s.pieces s.blocks records
      words cells)) word5)

  -- a dirty list has no rank to hold
  pub dirty_ranks : (g : ℕ → ℕ) → RanksHeld s.pieces (set (set words 6 0) 5 1) g
  dirty_ranks g k h = absurd (omega (arith, word6))
