-- The test of all pieces: the definition's test of each piece is a test of its cells and one of its pad bytes. Assumes nothing.
use mathlib.Core.Path.{◌≡◌, refl, sym, ap, ap₂, ◌∙◌}
use mathlib.Core.Bool.{Bool, true, false, not, ◌&&◌, ◌||◌, true≢false}
use mathlib.Core.List.{List}
use Prim.Native.Nat.{ℕ, zero, suc, ◌+◌, ◌-◌, ◌≤◌, ◌<◌}
use native.Mathlib.Decide.{dec_le}
use native.Mathlib.Omega.{arith}
use lib.Dec.{leb}
use lib.ListN.{length, get_or}
use borrow.Author.Tests.{le-leb, lt-leb}
use Rattle.model.specs.Lists.{every, from}
use Rattle.model.specs.Bep3.{num_pieces, piece_length}
use Rattle.model.specs.State.{Piece, Picker, max_peers, max_priority, is_open, no_piece, piece_at, piece_size_at}
use Rattle.model.specs.list.Order.{bucket, rank_of, rank}
use Rattle.model.specs.image.WellFormed.{piece_ok, pieces_ok}
use Rattle.model.proofs.base.Bep3Laws.{piece_length_le, piece_length_whole}
use Rattle.geometry.proofs.ValidLaws.{bounds}
use Rattle.memory_records.specs.declared.record.DownloadingPiece.{DownloadingPiece as Record}
use Rattle.memory_layout.specs.declared.shape.Shape.{Shape}
use Rattle.memory_layout.specs.Tables.{tabulate}
use Rattle.memory_layout.specs.Decode.{head_word, piece_word, piece_cell, pieces_on, queue_from, yes?, piece_held, pieces_held, decode}
use Rattle.memory_layout.specs.Bounds.{CellsSpan, WordColumn, CellColumn}
use Rattle.memory_layout.specs.Good.{piece_raw, pieces_raw, good_pieces}
use Rattle.memory_layout.proofs.TableLaws.{tabulate-nth}
use Rattle.check_pieces.specs.Rows.{piece_from, rank_from, cells_ok, Level, row_in, rank_in, Passed, pads_below, pads_ok}
use Rattle.check_pieces.specs.Parts.{HeadPassed, PieceTest}
use Rattle.check_pieces.proofs.RowLaws.{rank_pad}
use Rattle.check_pieces.proofs.Passes.{every_same, every_both, last_apart}

-- the test on one piece after the other is a test on each number
by_number : (p : Picker) (g : ℕ → Piece) (i n : ℕ) (f : ℕ → Piece) → ((k : ℕ) → f k ≡ g (i + k))
    → pieces_ok p i (tabulate n f) ≡ every (λ k. piece_ok p k (g k)) (from i n)
unfolding pieces_ok every from tabulate
by_number p g i zero f h = refl
by_number p g i (suc n) f h =
    let e : g (i + 0) ≡ g i = ap g (omega arith) in
    ap₂ ◌&&◌ (ap (piece_ok p i) (h 0 ∙ e))
    (by_number p g (suc i) n (λ k. f (suc k)) (λ k. h (suc k) ∙ ap g (omega arith)))

-- ---- piece i
unfoldable pub cells_at : (words cells : List ℕ) (n i : ℕ) → Bool
cells_at words cells n i =
    cells_ok (head_word words 2) (piece_cell cells n 0 i) (piece_cell cells n 1 i) (piece_cell cells n 2 i) (piece_cell cells n 3 i)

unfoldable pub pad_at : (words : List ℕ) (n i : ℕ) → Bool
pad_at words n i = leb (piece_word words n 0 i) (piece_length (head_word words 0) (head_word words 1) i)

pad_apart : (a b c d l : Bool) → (a && (b && (c && (d && l)))) ≡ ((a && (b && (c && d))) && l)
pad_apart true true true d l = refl
pad_apart true true false d l = refl
pad_apart true false c d l = refl
pad_apart false b c d l = refl

-- the definition's two tests on it
row_is : (records : List Record) (words cells : List ℕ) (n i : ℕ)
    → (piece_raw cells n i && piece_ok (decode records words cells) i (piece_held words cells n i)) ≡ (cells_at words cells n i && pad_at words n i)
unfolding cells_at pad_at cells_ok piece_raw piece_ok piece_held piece_size_at
row_is records words cells n i =
    pad_apart (leb (piece_cell cells n 1 i) 6 && leb (piece_cell cells n 3 i) 1) (leb (piece_cell cells n 0 i + head_word words 2) max_peers)
    (leb (piece_cell cells n 2 i) max_priority) (not (yes? (piece_cell cells n 3 i)) || is_open (queue_from (piece_cell cells n 1 i)))
    (leb (piece_word words n 0 i) (piece_length (head_word words 0) (head_word words 1) i))

-- all of them
rows_are : (records : List Record) (words cells : List ℕ)
    → good_pieces records words cells
    ≡ (every (cells_at words cells (pieces_on words)) (from 0 (pieces_on words)) && every (pad_at words (pieces_on words)) (from 0 (pieces_on words)))
unfolding good_pieces pieces_raw pieces_held
rows_are records words cells =
    let n = pieces_on words in
    let h = piece_held words cells n in
    ap (λ (t : Bool). every (piece_raw cells n) (from 0 n) && t) (by_number (decode records words cells) h 0 n h (λ k. ap h (omega arith)))
    ∙ every_both (piece_raw cells n) (λ k. piece_ok (decode records words cells) k (h k)) (from 0 n)
    ∙ every_same (λ k. piece_raw cells n k && piece_ok (decode records words cells) k (h k)) (λ k. cells_at words cells n k && pad_at words n k) 0 n (λ i l u. row_is records words cells n i)
    ∙ sym (every_both (cells_at words cells n) (pad_at words n) (from 0 n))

held_from : (words cells : List ℕ) (n i : ℕ)
    → piece_held words cells n i ≡ piece_from (piece_cell cells n 0 i) (piece_cell cells n 1 i) (piece_cell cells n 2 i) (piece_cell cells n 3 i) (piece_word words n 0 i)
unfolding piece_held piece_from
held_from words cells n i = refl

rank_at : (records : List Record) (words cells : List ℕ) (i : ℕ) → i < pieces_on words
    → rank_from (head_word words 2) (piece_cell cells (pieces_on words) 0 i) (piece_cell cells (pieces_on words) 1 i) (piece_cell cells (pieces_on words) 2 i) (piece_cell cells (pieces_on words) 3 i)
    ≡ rank (decode records words cells) i
unfolding rank piece_at pieces_held
rank_at records words cells i h =
    let n = pieces_on words in
    rank_pad (head_word words 2) (piece_cell cells n 0 i) (piece_cell cells n 1 i) (piece_cell cells n 2 i) (piece_cell cells n 3 i) (piece_word words n 0 i)
    ∙ sym (ap (λ (p : Piece). rank_of (bucket (head_word words 2) p)) (tabulate-nth n (piece_held words cells n) i no_piece h ∙ held_from words cells n i))

-- ---- the columns
module _ (s : Shape) (words : List ℕ) (r : HeadPassed s words) where
  pub some_piece : 1 ≤ s.pieces
  unfolding pieces_on
  some_piece = omega (arith, r.pieces, (bounds (head_word words 0) (head_word words 1) r.geometry).some_pieces)

  -- the last piece is one of the geometry's
  pub piece_there : (at total size : ℕ) → at ≡ s.pieces - 1 → total ≡ head_word words 0 → size ≡ head_word words 1 → at < num_pieces total size
  unfolding pieces_on
  piece_there at total size ea et ez = rw (ea, et, ez) (omega (arith, r.pieces, some_piece))

  -- ---- pad bytes
  module _ (pads : List ℕ) (ep : WordColumn words s.pieces 0 pads) where
    pub pads_long : (1 ≤ length pads) × (length pads ≤ 4096)
    pads_long = (omega (arith, ep.long, some_piece), omega (arith, ep.long, r.in_words.sizes.many))

    module _ (at total size long : ℕ) (ea : at ≡ s.pieces - 1) (et : total ≡ head_word words 0) (ez : size ≡ head_word words 1)
        (el : long ≡ piece_length total size at) where
      long_is : long ≡ piece_length (head_word words 0) (head_word words 1) (s.pieces - 1)
      long_is = el ∙ (λ k. piece_length (et k) (ez k) (ea k))

      pub last_most : long ≤ size
      last_most = omega (arith, long_is, ez, piece_length_le (head_word words 0) (head_word words 1) (s.pieces - 1))

      pad_read : (i : ℕ) → i < s.pieces → piece_word words (pieces_on words) 0 i ≡ get_or pads i 0
      pad_read i h = sym (ep.word i h ∙ ap (λ (n : ℕ). piece_word words n 0 i) r.pieces)

      -- a whole piece
      inner : (i : ℕ) → i < s.pieces - 1 → pad_at words (pieces_on words) i ≡ leb (get_or pads i 0) size
      unfolding pad_at pieces_on
      inner i h =
          let w = piece_length_whole (head_word words 0) (head_word words 1) i (bounds (head_word words 0) (head_word words 1) r.geometry).some_size (omega (arith, r.pieces)) in
          ap₂ leb (pad_read i (omega arith)) (w ∙ sym ez)

      below : (pad : ℕ) → leb pad long ≡ (leb pad size && leb pad long)
      below pad = elim (dec_le pad long) [
        | yes l ↦ rw (le-leb pad size (omega (arith, last_most)), le-leb pad long l)
        | no l ↦ rw (lt-leb pad long (omega arith)) (go (leb pad size))
      ]
        where
          go : (t : Bool) → false ≡ (t && false)
          go true = refl
          go false = refl

      -- the last one
      outer : pad_at words (pieces_on words) (s.pieces - 1) ≡ (leb (get_or pads (s.pieces - 1) 0) size && leb (get_or pads (s.pieces - 1) 0) long)
      unfolding pad_at
      outer = ap₂ leb (pad_read (s.pieces - 1) (omega (arith, some_piece))) (sym long_is) ∙ below (get_or pads (s.pieces - 1) 0)

      pub pads_are : every (pad_at words (pieces_on words)) (from 0 (pieces_on words)) ≡ pads_ok size long pads
      unfolding pads_ok pads_below
      pads_are =
          let l = s.pieces - 1 in
          let a : pieces_on words ≡ suc l = omega (arith, r.pieces, some_piece) in
          let b : suc l ≡ length pads = omega (arith, ep.long, some_piece) in
          let d : l ≡ length pads - 1 = omega (arith, ep.long) in
          ap (λ (n : ℕ). every (pad_at words (pieces_on words)) (from 0 n)) a
          ∙ last_apart (pad_at words (pieces_on words)) (λ i. leb (get_or pads i 0) size) (leb (get_or pads l 0) long) 0 l l (omega arith) inner outer
          ∙ ap₂ (λ (n k : ℕ). every (λ i. leb (get_or pads i 0) size) (from 0 n) && leb (get_or pads k 0) long) b d

  -- ---- cells
  module _ (cells : List ℕ) (q : CellsSpan s cells) (counts states priorities flushed : List ℕ) (e0 : CellColumn cells s.pieces 0 counts)
      (e1 : CellColumn cells s.pieces 1 states) (e2 : CellColumn cells s.pieces 2 priorities) (e3 : CellColumn cells s.pieces 3 flushed) where
    pub level : Level counts states priorities flushed
    level = record {
      most = omega (arith, e0.long, q.sizes.many);
      states_long = e1.long ∙ sym e0.long;
      priorities_long = e2.long ∙ sym e0.long;
      flushed_long = e3.long ∙ sym e0.long;
    }

    at_field : (i f : ℕ) (column : List ℕ) → CellColumn cells s.pieces f column → i < s.pieces → piece_cell cells (pieces_on words) f i ≡ get_or column i 0
    at_field i f column e h = sym (e.cell i h ∙ ap (λ (n : ℕ). piece_cell cells n f i) r.pieces)

    module _ (seeds : ℕ) (es : seeds ≡ head_word words 2) where
      cells_read : (i : ℕ) → i < s.pieces → cells_at words cells (pieces_on words) i ≡ row_in seeds counts states priorities flushed i
      unfolding cells_at row_in
      cells_read i h =
          λ k. cells_ok (sym es k) (at_field i 0 counts e0 h k) (at_field i 1 states e1 h k) (at_field i 2 priorities e2 h k) (at_field i 3 flushed e3 h k)

      rank_read : (i : ℕ) → i < s.pieces → (records : List Record) → rank_in seeds counts states priorities flushed i ≡ rank (decode records words cells) i
      unfolding rank_in
      rank_read i h records =
          (λ k. rank_from (es k) (sym (at_field i 0 counts e0 h) k) (sym (at_field i 1 states e1 h) k) (sym (at_field i 2 priorities e2 h) k) (sym (at_field i 3 flushed e3 h) k))
          ∙ rank_at records words cells i (omega (arith, r.pieces))

      cells_are : every (cells_at words cells (pieces_on words)) (from 0 (pieces_on words)) ≡ every (row_in seeds counts states priorities flushed) (from 0 (length counts))
      cells_are =
          let a : pieces_on words ≡ length counts = omega (arith, r.pieces, e0.long) in
          every_same (cells_at words cells (pieces_on words)) (row_in seeds counts states priorities flushed) 0 (pieces_on words) (λ i l u. cells_read i (omega (arith, r.pieces)))
          ∙ ap (λ (n : ℕ). every (row_in seeds counts states priorities flushed) (from 0 n)) a

      module _ (t : Bool) (ranks : List ℕ)
          (p : Passed (row_in seeds counts states priorities flushed) (rank_in seeds counts states priorities flushed) (length counts) t ranks) where
        pub rows_bad : t ≡ false → PieceTest s false words cells ranks
        rows_bad e = record {
          is = λ records. sym (rows_are records words cells ∙ rw (cells_are ∙ sym p.is ∙ e));
          each = λ z. absurd (true≢false (sym z));
          long = omega (arith, p.long, e0.long);
        }

        pub rows_good : t ≡ true → (u : Bool) → u ≡ every (pad_at words (pieces_on words)) (from 0 (pieces_on words)) → PieceTest s u words cells ranks
        rows_good e u eu = record {
          is = λ records. sym (rows_are records words cells ∙ rw (cells_are ∙ sym p.is ∙ e) (sym eu));
          each = λ z records i h. p.each e i (omega (arith, e0.long)) ∙ rank_read i h records;
          long = omega (arith, p.long, e0.long);
        }
