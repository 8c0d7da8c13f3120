-- One turn of the pass over the pieces of an image, and a stretch of them at once. Assumes nothing.
use mathlib.Core.Path.{◌≡◌, refl, sym, ap, subst, ◌∙◌}
use mathlib.Core.Bool.{true}
use mathlib.Core.List.{List, [], ◌∷◌, ◌++◌, append-nil}
use Prim.Native.Nat.{ℕ, zero, suc, ◌+◌, ◌*◌, ◌-◌, ◌≤◌, ◌<◌}
use native.Mathlib.Omega.{arith}
use native.Mathlib.Decide.{ℕ_discrete}
use lib.Dec.{ltb}
use lib.ListN.{length, get_or, set, drop, length-set, length-drop}
use lib.Seq.{get_or-set_same, get_or-set_other, length-take-le}
use borrow.Author.Tests.{ltb-true, ltb-false}
use borrow.Rule.Slice.PartMut.{put_mid, mid_of}
use Rattle.model.specs.Bep3.{num_pieces}
use Rattle.model.specs.State.{Piece as PieceRecord, Picker, piece_size_at}
use Rattle.model.specs.image.WellFormed.{head_ok}
use Rattle.model.specs.image.Image.{piece_kind, Got, got, fault, ret, next, judged, read_piece, get_pieces}
use Rattle.model.proofs.base.Bep3Laws.{piece_length_whole}
use Rattle.model.proofs.base.Truths.{by_test}
use Rattle.geometry.proofs.ValidLaws.{bounds}
use Rattle.memory_layout.specs.Tables.{tabulate}
use Rattle.memory_layout.proofs.TableLaws.{tabulate_more}
use Rattle.memory_layout.proofs.stores.ListStores.{part_below, part_within, part_put_long}
use Rattle.image_pieces.specs.declared.head.Head.{Head}
use Rattle.image_pieces.specs.declared.piece.Piece.{Piece}
use Rattle.image_pieces.specs.Places.{Failed}
use Rattle.image_pieces.specs.Heads.{head_picker, Headed}
use Rattle.image_pieces.specs.Pieces.{piece_place, piece_body, piece_in, first_pieces, RankBy, PieceRanked, PiecesStand, LeftDecides}
use Rattle.image_pieces.specs.Pieces.{Reading}
use Rattle.image_pieces.specs.Stretches.{PieceWell}
use Rattle.image_pieces.proofs.HeadLaws.{head_valid}
use Rattle.image_pieces.proofs.NextLaws.{next-got, next-fault, next_behind, next_start}
use Rattle.image_pieces.proofs.PieceLaws.{PieceGot}

-- ---- the definition's reader
module _ (s : Picker) (i m : ℕ) (bs : List ℕ) (before : List PieceRecord) where
  pieces_next : (p : PieceRecord) (rest : List ℕ) → judged piece_kind (read_piece s i) bs ≡ got p rest
      → next (get_pieces s i (suc m) bs) (λ ps. ret (before ++ ps)) ≡ next (get_pieces s (suc i) m rest)
      (λ ps. ret ((before ++ (p ∷ [])) ++ ps))
  unfolding get_pieces
  pieces_next p rest e =
      ap (λ (g : Got (List PieceRecord)). next g (λ ps. ret (before ++ ps)))
      (next-got (judged piece_kind (read_piece s i) bs) (λ x. λ l. next (get_pieces s (suc i) m l) (λ ps. ret (x ∷ ps))) p rest e)
      ∙ next_behind before p (get_pieces s (suc i) m rest)

  pieces_fault : (rest : List ℕ) → judged piece_kind (read_piece s i) bs ≡ fault rest
      → next (get_pieces s i (suc m) bs) (λ ps. ret (before ++ ps)) ≡ fault rest
  unfolding get_pieces
  pieces_fault rest e =
      next-fault (get_pieces s i (suc m) bs) (λ ps. ret (before ++ ps)) rest
      (next-fault (judged piece_kind (read_piece s i) bs) (λ x. λ l. next (get_pieces s (suc i) m l) (λ ps. ret (x ∷ ps))) rest e)

pieces_end : (s : Picker) (i m : ℕ) (bs : List ℕ) (before : List PieceRecord) → m ≡ 0
    → next (get_pieces s i m bs) (λ ps. ret (before ++ ps)) ≡ got before bs
unfolding get_pieces next
pieces_end s i m bs before e =
    ap (λ (k : ℕ). next (get_pieces s i k bs) (λ ps. ret (before ++ ps))) e ∙ ap (λ (l : List PieceRecord). got l bs) (append-nil before)

first_more : (bytes : List ℕ) (i : ℕ) → first_pieces bytes i ++ (piece_in bytes i ∷ []) ≡ first_pieces bytes (i + 1)
unfolding first_pieces
first_more bytes i =
    let e : suc i ≡ i + 1 = omega arith in
    sym (tabulate_more i (piece_in bytes)) ∙ ap (λ (k : ℕ). tabulate k (piece_in bytes)) e

-- one piece more
module _ (head : Head) (n : ℕ) (bytes : List ℕ) (i : ℕ) (p : LeftDecides head n bytes i) (h : i < n) where
  step_left : get_pieces (head_picker head) 0 n (drop 24 bytes)
      ≡ next (get_pieces (head_picker head) i (suc (n - (i + 1))) (drop (piece_place i) bytes)) (λ ps. ret (first_pieces bytes i ++ ps))
  step_left =
      p
      ∙ ap (λ (m : ℕ). next (get_pieces (head_picker head) i m (drop (piece_place i) bytes)) (λ ps. ret (first_pieces bytes i ++ ps)))
      (omega arith)

  left_next : judged piece_kind (read_piece (head_picker head) i) (drop (piece_place i) bytes)
      ≡ got (piece_in bytes i) (drop (piece_place i + 10) bytes) → LeftDecides head n bytes (i + 1)
  left_next e =
      step_left
      ∙ pieces_next (head_picker head) i (n - (i + 1)) (drop (piece_place i) bytes) (first_pieces bytes i) (piece_in bytes i)
      (drop (piece_place i + 10) bytes) e
      ∙ moved (first_more bytes i)
    where
      moved : first_pieces bytes i ++ (piece_in bytes i ∷ []) ≡ first_pieces bytes (i + 1)
          → next (get_pieces (head_picker head) (suc i) (n - (i + 1)) (drop (piece_place i + 10) bytes))
          (λ ps. ret ((first_pieces bytes i ++ (piece_in bytes i ∷ [])) ++ ps))
          ≡ next (get_pieces (head_picker head) (i + 1) (n - (i + 1)) (drop (piece_place (i + 1)) bytes))
          (λ ps. ret (first_pieces bytes (i + 1) ++ ps))
      moved e =
          let a : suc i ≡ i + 1 = omega arith in
          let b : piece_place i + 10 ≡ piece_place (i + 1) = omega arith in
          rw (e, a, b)

-- many pieces more
left_many : (head : Head) (n : ℕ) (bytes : List ℕ) (i : ℕ) → LeftDecides head n bytes i → (m : ℕ) → i + m ≤ n
    → ((j : ℕ) → j < m → judged piece_kind (read_piece (head_picker head) (i + j)) (drop (piece_place (i + j)) bytes)
    ≡ got (piece_in bytes (i + j)) (drop (piece_place (i + j) + 10) bytes))
    → LeftDecides head n bytes (i + m)
left_many head n bytes i p zero h g = let e : i ≡ i + 0 = omega arith in subst (LeftDecides head n bytes) e p
left_many head n bytes i p (suc m) h g =
    let e : i + m + 1 ≡ i + suc m = omega arith in
    subst (LeftDecides head n bytes) e
    (left_next head n bytes (i + m) (left_many head n bytes i p m (omega arith) (λ j l. g j (omega arith))) (omega arith)
    (g m (omega arith)))

-- ---- the pass
pub reading_start : (head : Head) (n : ℕ) (bytes ranks : List ℕ) → Headed head bytes → n ≤ length ranks
    → Reading head n (length ranks) bytes ranks 0
unfolding first_pieces tabulate
reading_start head n bytes ranks h l = record {
  within = omega arith;
  room = omega (arith, h.room);
  left =
      next_start (get_pieces (head_picker head) 0 n (drop 24 bytes))
      ∙ ap (λ (m : ℕ). next (get_pieces (head_picker head) 0 m (drop 24 bytes)) (λ ps. ret ([] ++ ps))) (omega arith);
  ranked = λ k z. absurd (omega arith);
  long = l;
  wide = refl;
}

-- so many by another name
pub reading_at : (head : Head) (n w : ℕ) (bytes ranks : List ℕ) (i j : ℕ) → Reading head n w bytes ranks i → i ≡ j
    → Reading head n w bytes ranks j
reading_at head n w bytes ranks i j p e = rw e at p

-- of as many ranks as there are
pub reading_on : (head : Head) (n w : ℕ) (bytes ranks : List ℕ) (i : ℕ) → Reading head n w bytes ranks i
    → Reading head n (length ranks) bytes ranks i
reading_on head n w bytes ranks i p = subst (λ (k : ℕ). Reading head n k bytes ranks i) (sym p.wide) p

module _ (head : Head) (n w : ℕ) (bytes ranks : List ℕ) (i : ℕ) (p : Reading head n w bytes ranks i) where
  module _ (h : i < n) where
    pub reading_next : (x : Piece) → PieceGot (head_picker head) i (piece_place i) bytes x → (r : ℕ) → RankBy head.seeds x r
        → Reading head n w bytes (set ranks i r) (i + 1)
    unfolding piece_in piece_body
    reading_next x g r er = record {
      within = omega arith;
      room = omega (arith, g.room);
      left = left_next head n bytes i p.left h g.is;
      ranked = λ k l. elim (ℕ_discrete k i) [
        | yes q ↦ rw q (record {
          state = g.state;
          rank = get_or-set_same ranks i r 0 (omega (arith, p.long, p.wide)) ∙ er (piece_in bytes i) g.numbers;
        })
        | no q ↦ record {
          state = (p.ranked k (omega arith)).state;
          rank = get_or-set_other ranks i k r 0 q ∙ (p.ranked k (omega arith)).rank;
        }
      ];
      long = p.long;
      wide = length-set ranks i r ∙ p.wide;
    }

    pub reading_fault : judged piece_kind (read_piece (head_picker head) i) (drop (piece_place i) bytes) ≡ fault (drop (piece_place i) bytes)
        → Failed (get_pieces (head_picker head) 0 n (drop 24 bytes)) bytes (piece_place i)
    reading_fault e = record {
      is =
          step_left head n bytes i p.left h
          ∙ pieces_fault (head_picker head) i (n - (i + 1)) (drop (piece_place i) bytes) (first_pieces bytes i) (drop (piece_place i) bytes) e;
      within = p.room;
    }

  pub reading_end : n ≤ i → PiecesStand head n bytes ranks
  reading_end h =
      let e : i ≡ n = omega (arith, p.within) in
      record {
        is =
            p.left
            ∙ pieces_end (head_picker head) i (n - i) (drop (piece_place i) bytes) (first_pieces bytes i) (omega arith)
            ∙ ap (λ (k : ℕ). got (first_pieces bytes k) (drop (piece_place k) bytes)) e;
        room = omega (arith, p.room);
        ranked = λ k l. p.ranked k (omega arith);
      }

-- ---- a stretch at once
pub part_long : (i k : ℕ) (ranks : List ℕ) → i + k ≤ length ranks → length (mid_of i k ranks) ≡ k
part_long i k ranks h = length-take-le k (drop i ranks) (omega (arith, length-drop i ranks))

-- k ranks from i on were lent, and came back as `part`
module _ (head : Head) (n w : ℕ) (bytes ranks : List ℕ) (i : ℕ) (p : Reading head n w bytes ranks i) (k m : ℕ) (ek : k ≡ m)
    (fits : i + m ≤ n) (part : List ℕ) (same : length part ≡ length (mid_of i k ranks)) where
  in_ranks : i + k ≤ length ranks
  in_ranks = omega (arith, p.long, p.wide)

  as_long : length part ≡ k
  as_long = same ∙ part_long i k ranks in_ranks

  -- they do not matter to what was read
  pub reading_part : Reading head n w bytes (put_mid i k ranks part) i
  reading_part = record {
    within = p.within;
    room = p.room;
    left = p.left;
    ranked = λ j l. record {
      state = (p.ranked j l).state;
      rank = part_below i k ranks part in_ranks as_long j l ∙ (p.ranked j l).rank;
    };
    long = p.long;
    wide = part_put_long i k ranks part in_ranks as_long ∙ p.wide;
  }

  -- each of the pieces is well, and has its rank there
  pub reading_stretch : piece_place (i + m) ≤ length bytes
      → ((j : ℕ) → j < m → piece_size_at (head_picker head) (i + j) ≡ head.size)
      → ((j : ℕ) → j < m → PieceWell head.seeds head.size (piece_place i + 10 * j) bytes (get_or part j 0))
      → Reading head n w bytes (put_mid i k ranks part) (i + m)
  unfolding piece_in piece_body head_picker
  reading_stretch room size well = record {
    within = fits;
    room = room;
    left = left_many head n bytes i p.left m fits (λ j l. (here j l).is (head_picker head) (i + j) refl (size j l));
    ranked = λ q l. by_test (ltb q i) (λ t. reading_part.ranked q (ltb-true q i t))
        (λ t.
        let j = q - i in
        let e : i + j ≡ q = omega (arith, ltb-false q i t) in
        let v = here j (omega (arith, ltb-false q i t)) in
        subst (PieceRanked head.seeds bytes (put_mid i k ranks part)) e (record {
          state = v.state;
          rank = part_within i k ranks part in_ranks as_long j (omega (arith, ltb-false q i t)) ∙ v.rank;
        }));
    long = p.long;
    wide = reading_part.wide;
  }
    where
      here : (j : ℕ) → j < m → PieceWell head.seeds head.size (piece_place (i + j)) bytes (get_or part j 0)
      here j l =
          let e : piece_place i + 10 * j ≡ piece_place (i + j) = omega arith in
          subst (λ (at : ℕ). PieceWell head.seeds head.size at bytes (get_or part j 0)) e (well j l)

-- a piece that is not the last has the piece size
pub whole_size : (head : Head) (n : ℕ) → head_ok (head_picker head) ≡ true → n ≡ num_pieces head.total head.size → (i : ℕ) → i + 1 < n
    → piece_size_at (head_picker head) i ≡ head.size
unfolding head_picker piece_size_at
whole_size head n ok e i h =
    piece_length_whole head.total head.size i (bounds head.total head.size (head_valid head ok)).some_size (omega arith)
