-- The parts of an image, each a run of records: pieces, partials with their blocks, extents, list. Each part is read as it was written, and
-- only so, where its rules hold.
use mathlib.Core.Path.{◌≡◌, refl, sym, ap, ap₂, ◌∙◌, subst}
use mathlib.Core.Bool.{Bool, true, false, cond, ◌&&◌, true≢false}
use mathlib.Core.List.{List, [], ◌∷◌, ◌++◌, append_assoc, append-nil}
use Prim.Native.Nat.{ℕ, zero, suc, ◌+◌, ◌-◌, ◌*◌, ◌/◌, ◌≤◌, ◌<◌}
use native.Mathlib.Nat.{div-le_self}
use native.Mathlib.Omega.{arith}
use lib.Dec.{eqb, ltb}
use borrow.Author.Tests.{ltb-true, eqb-true, eq-eqb}
use Rattle.model.specs.Lists.{bit, nth, len, every, concat_map}
use Rattle.model.specs.Bep3.{num_pieces}
use Rattle.model.specs.State.{Piece, Block, DownloadingPiece, Picker, Listing, dirty, fresh, max_pieces, max_piece_size, max_partials}
use Rattle.model.specs.State.{max_extents, extent_blocks, is_open, is_dirty, list_of, pieces_in, blocks_per_piece, blocks_in_piece, extent_size}
use Rattle.model.specs.State.{num_extents}
use Rattle.model.specs.list.Order.{with_bucket}
use Rattle.model.specs.image.WellFormed.{piece_ok, pieces_ok, block_ok, state_ok, partial_ok, partials_ok, extent_ok, extents_ok, place_ok}
use Rattle.model.specs.image.WellFormed.{order_ok, listing_ok}
use Rattle.model.specs.image.Image.{body_length, partial_kind, extent_kind, place_kind, bytes_of, piece_record, block_record, flags_of}
use Rattle.model.specs.image.Image.{partial_records, number_record, Got, got, fault, ret, next, judged, get_pieces, get_blocks}
use Rattle.model.specs.image.Image.{partial_with, get_partial, get_partials, read_extent, comes, get_extents, read_place, get_order}
use Rattle.model.specs.image.Image.{get_listing}
use Rattle.model.proofs.base.Bep3Laws.{blocks_in_piece_pos}
use Rattle.model.proofs.image.Bytes.{size_append}
use Rattle.model.proofs.image.Codec.{Codec, got_value, got_rest, next_back, seq_there, seq_back}
use Rattle.model.proofs.image.Records.{piece_codec, block_codec, last_codec, partial_codec, number_codec, unread, HeadFits}
use Rattle.model.proofs.base.Truths.{both, by_test, true_both}

-- ---- the pieces
pieces_there : (s : Picker) → s.piece_size ≤ max_piece_size → (n i : ℕ) (ps : List Piece) (rest : List ℕ) → len ps ≡ n → pieces_ok s i ps ≡ true
    → get_pieces s i n (concat_map piece_record ps ++ rest) ≡ got ps rest
unfolding get_pieces concat_map pieces_ok len next
pieces_there s lim zero i [] rest h v = refl
pieces_there s lim zero i (p ∷ ps) rest h v = absurd (omega arith)
pieces_there s lim (suc n) i [] rest h v = absurd (omega arith)
pieces_there s lim (suc n) i (p ∷ ps) rest h v =
    both (piece_ok s i p) (pieces_ok s (suc i) ps) v λ v₁ v₂.
    ap (get_pieces s i (suc n)) (append_assoc (piece_record p) (concat_map piece_record ps) rest)
    ∙ seq_there (piece_codec s i lim) _ p _ v₁
    ∙ ap (λ (g : Got (List Piece)). next g (λ qs. ret (p ∷ qs))) (pieces_there s lim n (suc i) ps rest (omega arith) v₂)

pieces_back : (s : Picker) → s.piece_size ≤ max_piece_size → (n i : ℕ) (bs : List ℕ) (ps : List Piece) (rest : List ℕ) → get_pieces s i n bs ≡ got ps rest
    → (bs ≡ concat_map piece_record ps ++ rest) × ((len ps ≡ n) × (pieces_ok s i ps ≡ true))
unfolding get_pieces concat_map pieces_ok len
pieces_back s lim zero i bs ps rest e =
    subst (λ (l : List Piece). (bs ≡ concat_map piece_record l ++ rest) × ((len l ≡ 0) × (pieces_ok s i l ≡ true))) (got_value e) (got_rest e, (refl, refl))
pieces_back s lim (suc n) i bs ps rest e =
    seq_back (piece_codec s i lim) _ bs ps rest e λ p m p₁ v₁ q₁.
    next_back (get_pieces s (suc i) n m) _ ps rest q₁ λ qs m₂ p₂ q₂.
    let h = pieces_back s lim n (suc i) m qs m₂ p₂ in
    subst (λ (l : List Piece). (bs ≡ concat_map piece_record l ++ rest) × ((len l ≡ suc n) × (pieces_ok s i l ≡ true))) (got_value q₂) (
      p₁ ∙ ap (λ (l : List ℕ). piece_record p ++ l) (h.0 ∙ ap (λ (l : List ℕ). concat_map piece_record qs ++ l) (got_rest q₂))
          ∙ sym (append_assoc (piece_record p) (concat_map piece_record qs) rest),
      (ap suc h.1.0, true_both (piece_ok s i p) (pieces_ok s (suc i) qs) v₁ h.1.1),
    )

-- n pieces, from piece i on
pub pieces_codec : (s : Picker) → s.piece_size ≤ max_piece_size → (i n : ℕ)
    → Codec (concat_map piece_record) (get_pieces s i n) (λ ps. (len ps ≡ n) × (pieces_ok s i ps ≡ true))
pieces_codec s lim i n = record {
  there = λ ps rest v. pieces_there s lim n i ps rest v.0 v.1;
  back = λ bs ps rest e. pieces_back s lim n i bs ps rest e;
}

-- ---- the blocks of a partial
-- n blocks after others, the rule of the partial judged with the last
pub blocks_there : (fits : List Block → Bool) (n : ℕ) (before bs : List Block) (rest : List ℕ) → len bs ≡ n → every block_ok bs ≡ true
    → fits (before ++ bs) ≡ true → get_blocks fits before n (concat_map block_record bs ++ rest) ≡ got (before ++ bs) rest
unfolding get_blocks concat_map every len next
blocks_there fits zero before [] rest h v t = ap (λ (l : List Block). got l rest) (sym (append-nil before))
blocks_there fits zero before (b ∷ bs) rest h v t = absurd (omega arith)
blocks_there fits (suc zero) before [] rest h v t = absurd (omega arith)
blocks_there fits (suc zero) before (b ∷ []) rest h v t =
    both (block_ok b) true v λ v₁ v₂.
    ap (get_blocks fits before 1) (append_assoc (block_record b) [] rest)
    ∙ seq_there (last_codec fits before) _ b rest (v₁, t)
blocks_there fits (suc zero) before (b ∷ c ∷ bs) rest h v t = absurd (omega arith)
blocks_there fits (suc (suc n)) before [] rest h v t = absurd (omega arith)
blocks_there fits (suc (suc n)) before (b ∷ bs) rest h v t =
    both (block_ok b) (every block_ok bs) v λ v₁ v₂.
    let e : before ++ (b ∷ []) ++ bs ≡ before ++ (b ∷ bs) = append_assoc before (b ∷ []) bs in
    ap (get_blocks fits before (suc (suc n))) (append_assoc (block_record b) (concat_map block_record bs) rest)
    ∙ seq_there block_codec _ b _ v₁
    ∙ blocks_there fits (suc n) (before ++ (b ∷ [])) bs rest (omega arith) v₂ (ap fits e ∙ t)
    ∙ ap (λ (l : List Block). got l rest) e

-- what was read where n blocks were read after others
pub record BlocksRead (fits : List Block → Bool) (n : ℕ) (before all : List Block) (bytes rest : List ℕ) : Type 0 where
  pub new : List Block
  pub joins : all ≡ before ++ new
  pub written : bytes ≡ concat_map block_record new ++ rest
  pub counted : len new ≡ n
  pub ok : every block_ok new ≡ true
  pub judged_last : 1 ≤ n → fits all ≡ true

-- blocks that were read were written so
pub blocks_back : (fits : List Block → Bool) (n : ℕ) (before : List Block) (bytes : List ℕ) (all : List Block) (rest : List ℕ)
    → get_blocks fits before n bytes ≡ got all rest → BlocksRead fits n before all bytes rest
unfolding get_blocks concat_map every len
blocks_back fits zero before bytes all rest e = record {
  new = [];
  joins = sym (got_value e) ∙ sym (append-nil before);
  written = got_rest e;
  counted = refl;
  ok = refl;
  judged_last = λ h. absurd (omega arith);
}
blocks_back fits (suc zero) before bytes all rest e =
    seq_back (last_codec fits before) _ bytes all rest e λ b m p v q. record {
      new = b ∷ [];
      joins = sym (got_value q);
      written = p ∙ ap (λ (l : List ℕ). block_record b ++ l) (got_rest q) ∙ sym (append_assoc (block_record b) [] rest);
      counted = refl;
      ok = true_both (block_ok b) true v.0 refl;
      judged_last = λ h. ap fits (sym (got_value q)) ∙ v.1;
    }
blocks_back fits (suc (suc n)) before bytes all rest e =
    seq_back block_codec _ bytes all rest e λ b m p v q.
    let h = blocks_back fits (suc n) (before ++ (b ∷ [])) m all rest q in
    record {
      new = b ∷ h.new;
      joins = h.joins ∙ append_assoc before (b ∷ []) h.new;
      written = p ∙ ap (λ (l : List ℕ). block_record b ++ l) h.written ∙ sym (append_assoc (block_record b) (concat_map block_record h.new) rest);
      counted = ap suc h.counted;
      ok = true_both (block_ok b) (every block_ok h.new) v h.ok;
      judged_last = λ k. h.judged_last (omega arith);
    }

-- ---- a partial
flags_back : (i : ℕ) (a b c : Bool) (bs : List Block)
    → partial_with i (bit a + 2 * bit b + 4 * bit c) bs ≡ record { piece = i; passed_hash_check = a; locked = b; hashing = c; blocks = bs }
unfolding partial_with
flags_back i true true true bs = refl
flags_back i true true false bs = refl
flags_back i true false true bs = refl
flags_back i true false false bs = refl
flags_back i false true true bs = refl
flags_back i false true false bs = refl
flags_back i false false true bs = refl
flags_back i false false false bs = refl

partial_flags : (d : DownloadingPiece) → partial_with d.piece (flags_of d) d.blocks ≡ d
unfolding flags_of
partial_flags d = flags_back d.piece d.passed_hash_check d.locked d.hashing d.blocks

flags_below : (a b c : Bool) → bit a + 2 * bit b + 4 * bit c ≤ 7
flags_below a b c = omega (arith, below a, below b, below c)
  where
    below : (t : Bool) → bit t ≤ 1
    below true = omega arith
    below false = omega arith

flags_forth : (i f : ℕ) (bs : List Block) → f ≤ 7 → flags_of (partial_with i f bs) ≡ f
unfolding flags_of partial_with
flags_forth i zero bs h = refl
flags_forth i (suc zero) bs h = refl
flags_forth i (suc (suc zero)) bs h = refl
flags_forth i (suc (suc (suc zero))) bs h = refl
flags_forth i (suc (suc (suc (suc zero)))) bs h = refl
flags_forth i (suc (suc (suc (suc (suc zero))))) bs h = refl
flags_forth i (suc (suc (suc (suc (suc (suc zero)))))) bs h = refl
flags_forth i (suc (suc (suc (suc (suc (suc (suc zero))))))) bs h = refl
flags_forth i (suc (suc (suc (suc (suc (suc (suc (suc f)))))))) bs h = absurd (omega arith)

-- the records of a partial: its own, then its blocks
partial_split : (d : DownloadingPiece) (rest : List ℕ) → partial_records d ++ rest
    ≡ (partial_kind ∷ (bytes_of 4 d.piece ++ bytes_of 1 (flags_of d))) ++ (concat_map block_record d.blocks ++ rest)
unfolding partial_records
partial_split d rest = simp append_assoc

partial_there : (s : Picker) (i n : ℕ) (p : Piece) (d : DownloadingPiece) (rest : List ℕ) → i < 4294967296 → d.piece ≡ i → partial_ok s i n p d ≡ true
    → get_partial s i n p (partial_records d ++ rest) ≡ got d rest
unfolding get_partial partial_ok next flags_of
partial_there s i n p d rest lim e v =
    both (eqb d.piece i) _ v λ v₁ w₁.
    both (ltb n max_partials) _ w₁ λ v₂ w₂.
    both (eqb (len d.blocks) (blocks_in_piece s i)) _ w₂ λ v₃ w₃.
    both (every block_ok d.blocks) (state_ok p d) w₃ λ v₄ v₅.
    let f : partial_with i (flags_of d) d.blocks ≡ d =
    ap (λ (k : ℕ). partial_with k (flags_of d) d.blocks) (sym e) ∙ partial_flags d in
    ap (get_partial s i n p)
    (partial_split d rest
    ∙ ap (λ (k : ℕ). (partial_kind ∷ (bytes_of 4 k ++ bytes_of 1 (flags_of d))) ++ (concat_map block_record d.blocks ++ rest)) e)
    ∙ seq_there (partial_codec i n lim) _ (flags_of d) _ (flags_below d.passed_hash_check d.locked d.hashing, v₂)
    ∙ ap (λ (g : Got (List Block)). next g (λ bs. ret (partial_with i (flags_of d) bs)))
    (blocks_there (λ bs. state_ok p (partial_with i (flags_of d) bs)) (blocks_in_piece s i) [] d.blocks rest
    (eqb-true (len d.blocks) (blocks_in_piece s i) v₃) v₄ (ap (state_ok p) f ∙ v₅))
    ∙ ap (λ (x : DownloadingPiece). got x rest) f

partial_whole : (s : Picker) (i n : ℕ) (p : Piece) (f : ℕ) (bytes : List ℕ) (bs : List Block) (m m₂ rest : List ℕ)
    → bytes ≡ (partial_kind ∷ (bytes_of 4 i ++ bytes_of 1 f)) ++ m → f ≤ 7 → ltb n max_partials ≡ true
    → BlocksRead (λ bs. state_ok p (partial_with i f bs)) (blocks_in_piece s i) [] bs m m₂ → m₂ ≡ rest → 1 ≤ blocks_in_piece s i
    → (bytes ≡ partial_records (partial_with i f bs) ++ rest) × (partial_ok s i n p (partial_with i f bs) ≡ true)
unfolding partial_with partial_ok
partial_whole s i n p f bytes bs m m₂ rest e fit room r q some = (
  e
      ∙ ap₂ (λ (k : ℕ) (l : List ℕ). (partial_kind ∷ (bytes_of 4 i ++ bytes_of 1 k)) ++ l) (sym (flags_forth i f bs fit))
      (r.written ∙ ap₂ (λ (x : List Block) (l : List ℕ). concat_map block_record x ++ l) (sym r.joins) q)
      ∙ sym (partial_split (partial_with i f bs) rest),
  true_both (eqb i i) _ (eq-eqb i i refl)
      (true_both (ltb n max_partials) _ room
      (true_both (eqb (len bs) (blocks_in_piece s i)) _ (eq-eqb (len bs) (blocks_in_piece s i) (ap len r.joins ∙ r.counted))
      (true_both (every block_ok bs) _ (ap (every block_ok) r.joins ∙ r.ok) (r.judged_last some)))),
)

partial_back : (s : Picker) (i n : ℕ) (p : Piece) (bytes : List ℕ) (d : DownloadingPiece) (rest : List ℕ) → i < 4294967296 → 1 ≤ blocks_in_piece s i
    → get_partial s i n p bytes ≡ got d rest → (bytes ≡ partial_records d ++ rest) × (partial_ok s i n p d ≡ true)
unfolding get_partial partial_ok
partial_back s i n p bytes d rest lim some e =
    seq_back (partial_codec i n lim) _ bytes d rest e λ f m p₁ v₁ q₁.
    next_back (get_blocks (λ bs. state_ok p (partial_with i f bs)) [] (blocks_in_piece s i) m) _ d rest q₁ λ bs m₂ p₂ q₂.
    subst (λ (x : DownloadingPiece). (bytes ≡ partial_records x ++ rest) × (partial_ok s i n p x ≡ true)) (got_value q₂)
    (partial_whole s i n p f bytes bs m m₂ rest p₁ v₁.0 v₁.1 (blocks_back (λ bs. state_ok p (partial_with i f bs)) (blocks_in_piece s i) [] m bs m₂ p₂) (got_rest q₂) some)

-- a partial of piece i, where n partials stand before it
pub partial_records_codec : (s : Picker) (i n : ℕ) (p : Piece) → i < 4294967296 → 1 ≤ blocks_in_piece s i
    → Codec partial_records (get_partial s i n p) (λ d. partial_ok s i n p d ≡ true)
unfolding partial_ok
partial_records_codec s i n p lim some = record {
  there = λ d rest v.
      both (eqb d.piece i) _ v λ a b. partial_there s i n p d rest lim (eqb-true d.piece i a) v;
  back = λ bs d rest e. partial_back s i n p bs d rest lim some e;
}

-- ---- the partials
module _ (s : Picker) (i n : ℕ) (p : Piece) (ps : List Piece) where
  -- an Open piece has no partial
  pub open_read : is_open p.state ≡ true → (bs : List ℕ) → get_partials s i n (p ∷ ps) bs ≡ get_partials s (suc i) n ps bs
  unfolding get_partials
  open_read o bs = rw (o, get_partials)

  -- any other has one
  pub shut_read : is_open p.state ≡ false → (bs : List ℕ)
      → get_partials s i n (p ∷ ps) bs
      ≡ next (get_partial s i n p bs) (λ d m. next (get_partials s (suc i) (suc n) ps m) (λ ds. ret (d ∷ ds)))
  unfolding get_partials
  shut_read o bs = rw (o, get_partials)

  open_ok : is_open p.state ≡ true → (ds : List DownloadingPiece) → partials_ok s i n (p ∷ ps) ds ≡ partials_ok s (suc i) n ps ds
  unfolding partials_ok
  open_ok o [] = ap (λ (t : Bool). t && partials_ok s (suc i) n ps []) o
  open_ok o (d ∷ ds) =
      ap (λ (t : Bool). cond t (partials_ok s (suc i) n ps (d ∷ ds)) (partial_ok s i n p d && partials_ok s (suc i) (suc n) ps ds)) o

  shut_none : is_open p.state ≡ false → partials_ok s i n (p ∷ ps) [] ≡ false
  unfolding partials_ok
  shut_none o = ap (λ (t : Bool). t && partials_ok s (suc i) n ps []) o

  shut_ok : is_open p.state ≡ false → (d : DownloadingPiece) (ds : List DownloadingPiece)
      → partials_ok s i n (p ∷ ps) (d ∷ ds) ≡ (partial_ok s i n p d && partials_ok s (suc i) (suc n) ps ds)
  unfolding partials_ok
  shut_ok o d ds =
      ap (λ (t : Bool). cond t (partials_ok s (suc i) n ps (d ∷ ds)) (partial_ok s i n p d && partials_ok s (suc i) (suc n) ps ds)) o

module _ (s : Picker) (f : HeadFits s) where
  -- the codec of the partial of a piece that there is
  partial_at : (i n : ℕ) (p : Piece) → i < num_pieces s.total_size s.piece_size → Codec partial_records (get_partial s i n p) (λ d. partial_ok s i n p d ≡ true)
  unfolding blocks_in_piece
  partial_at i n p h = partial_records_codec s i n p (omega arith) (blocks_in_piece_pos s.total_size s.piece_size i f.size_some h)

  partials_there : (i n : ℕ) (ps : List Piece) (ds : List DownloadingPiece) (rest : List ℕ) → i + len ps ≡ num_pieces s.total_size s.piece_size
      → partials_ok s i n ps ds ≡ true → get_partials s i n ps (concat_map partial_records ds ++ rest) ≡ got ds rest
  unfolding get_partials partials_ok concat_map len next
  partials_there i n [] [] rest h v = refl
  partials_there i n [] (d ∷ ds) rest h v = absurd (true≢false (sym v))
  partials_there i n (p ∷ ps) [] rest h v =
      by_test (is_open p.state)
      (λ o. open_read s i n p ps o rest ∙ partials_there (suc i) n ps [] rest (omega arith) (sym (open_ok s i n p ps o []) ∙ v))
      (λ o. absurd (true≢false (sym v ∙ shut_none s i n p ps o)))
  partials_there i n (p ∷ ps) (d ∷ ds) rest h v =
      by_test (is_open p.state)
      (λ o.
      open_read s i n p ps o (concat_map partial_records (d ∷ ds) ++ rest)
      ∙ partials_there (suc i) n ps (d ∷ ds) rest (omega arith) (sym (open_ok s i n p ps o (d ∷ ds)) ∙ v))
      (λ o.
      both (partial_ok s i n p d) (partials_ok s (suc i) (suc n) ps ds) (sym (shut_ok s i n p ps o d ds) ∙ v) λ v₁ v₂.
      shut_read s i n p ps o (concat_map partial_records (d ∷ ds) ++ rest)
      ∙ ap (λ (l : List ℕ). next (get_partial s i n p l) (λ d m. next (get_partials s (suc i) (suc n) ps m) (λ ds. ret (d ∷ ds))))
      (append_assoc (partial_records d) (concat_map partial_records ds) rest)
      ∙ seq_there (partial_at i n p (omega arith)) _ d _ v₁
      ∙ ap (λ (g : Got (List DownloadingPiece)). next g (λ es. ret (d ∷ es))) (partials_there (suc i) (suc n) ps ds rest (omega arith) v₂))

  partials_back : (i n : ℕ) (ps : List Piece) (bs : List ℕ) (ds : List DownloadingPiece) (rest : List ℕ) → i + len ps ≡ num_pieces s.total_size s.piece_size
      → get_partials s i n ps bs ≡ got ds rest → (bs ≡ concat_map partial_records ds ++ rest) × (partials_ok s i n ps ds ≡ true)
  unfolding get_partials partials_ok concat_map len
  partials_back i n [] bs ds rest h e =
      subst (λ (l : List DownloadingPiece). (bs ≡ concat_map partial_records l ++ rest) × (partials_ok s i n [] l ≡ true)) (got_value e) (got_rest e, refl)
  partials_back i n (p ∷ ps) bs ds rest h e =
      by_test (is_open p.state)
      (λ o.
      let r = partials_back (suc i) n ps bs ds rest (omega arith) (sym (open_read s i n p ps o bs) ∙ e) in
      (r.0, open_ok s i n p ps o ds ∙ r.1))
      (λ o.
      seq_back (partial_at i n p (omega arith)) _ bs ds rest (sym (shut_read s i n p ps o bs) ∙ e) λ d m p₁ v₁ q₁.
      next_back (get_partials s (suc i) (suc n) ps m) _ ds rest q₁ λ es m₂ p₂ q₂.
      let r = partials_back (suc i) (suc n) ps m es m₂ (omega arith) p₂ in
      subst (λ (l : List DownloadingPiece). (bs ≡ concat_map partial_records l ++ rest) × (partials_ok s i n (p ∷ ps) l ≡ true)) (got_value q₂) (
        p₁ ∙ ap (λ (l : List ℕ). partial_records d ++ l) (r.0 ∙ ap (λ (l : List ℕ). concat_map partial_records es ++ l) (got_rest q₂))
            ∙ sym (append_assoc (partial_records d) (concat_map partial_records es) rest),
        shut_ok s i n p ps o d es ∙ true_both (partial_ok s i n p d) (partials_ok s (suc i) (suc n) ps es) v₁ r.1,
      ))

-- the partials of the pieces from i on, where n partials stand before them
pub partials_codec : (s : Picker) → HeadFits s → (i n : ℕ) (ps : List Piece) → i + len ps ≡ num_pieces s.total_size s.piece_size
    → Codec (concat_map partial_records) (get_partials s i n ps) (λ ds. partials_ok s i n ps ds ≡ true)
partials_codec s f i n ps h = record {
  there = λ ds rest v. partials_there s f i n ps ds rest h v;
  back = λ bs ds rest e. partials_back s f i n ps bs ds rest h e;
}

-- ---- the extents
one_more : (before : List ℕ) (e : ℕ) → len (before ++ (e ∷ [])) ≡ len before + 1
unfolding len
one_more before e = size_append before (e ∷ [])

extents_few : (n b : ℕ) → num_extents n b ≤ n + 256
unfolding num_extents extent_size
extents_few n b = by_size (eqb b extent_blocks)
  where
    by_size : (t : Bool) → cond t 0 ((n + extent_blocks / b - 1) / (extent_blocks / b)) ≤ n + 256
    by_size true = omega arith
    by_size false = omega (arith, div-le_self (n + extent_blocks / b - 1) (extent_blocks / b), div-le_self extent_blocks b)

-- where an extent record comes, and where none comes
module _ (s : Picker) where
  -- none comes: the extents are read
  pub extents_end : (n : ℕ) (before bs : List ℕ) → comes extent_kind bs ≡ false → get_extents s n before bs ≡ got before bs
  unfolding get_extents
  extents_end zero before bs c = ap (λ (t : Bool). cond t (fault bs) (got before bs)) c
  extents_end (suc n) before bs c = rw (c, get_extents)

  -- one comes where as many as may be are read: it is at fault
  pub extents_full : (before bs : List ℕ) → comes extent_kind bs ≡ true → get_extents s zero before bs ≡ fault bs
  unfolding get_extents
  extents_full before bs c = ap (λ (t : Bool). cond t (fault bs) (got before bs)) c

  -- one comes: it is read, and then those behind it
  pub extents_more : (n : ℕ) (before bs : List ℕ) → comes extent_kind bs ≡ true
      → get_extents s (suc n) before bs ≡ next (judged extent_kind (read_extent s before) bs) (λ e. get_extents s n (before ++ (e ∷ [])))
  unfolding get_extents
  extents_more n before bs c = rw (c, get_extents)

-- what was read where extents were read after others
pub record ExtentsRead (s : Picker) (before all bytes rest : List ℕ) : Type 0 where
  pub new : List ℕ
  pub joins : all ≡ before ++ new
  pub written : bytes ≡ concat_map (number_record extent_kind) new ++ rest
  pub ok : extents_ok s before new ≡ true
  pub ends : comes extent_kind rest ≡ false

module _ (s : Picker) (lim : pieces_in s ≤ max_pieces) where
  extent_codec : (before : List ℕ) → Codec (number_record extent_kind) (judged extent_kind (read_extent s before)) (λ e. extent_ok s before e ≡ true)
  unfolding read_extent body_length nth extent_ok
  extent_codec before =
      number_codec extent_kind (extent_ok s before) refl (λ e v.
      both (ltb (len before) max_extents) _ v λ a w.
      both (ltb e (num_extents (pieces_in s) (blocks_per_piece s))) _ w λ b c.
      omega (arith, ltb-true e (num_extents (pieces_in s) (blocks_per_piece s)) b, extents_few (pieces_in s) (blocks_per_piece s)))

  -- extents after others, where no extent record follows
  pub extents_there : (n : ℕ) (before es rest : List ℕ) → n + len before ≡ max_extents → extents_ok s before es ≡ true → comes extent_kind rest ≡ false
      → get_extents s n before (concat_map (number_record extent_kind) es ++ rest) ≡ got (before ++ es) rest
  unfolding concat_map extents_ok extent_ok number_record comes
  extents_there n before [] rest h v c = extents_end s n before rest c ∙ ap (λ (l : List ℕ). got l rest) (sym (append-nil before))
  extents_there zero before (e ∷ es) rest h v c =
      both (extent_ok s before e) _ v λ v₁ v₂.
      both (ltb (len before) max_extents) _ v₁ λ a b.
      absurd (omega (arith, ltb-true (len before) max_extents a))
  extents_there (suc n) before (e ∷ es) rest h v c =
      both (extent_ok s before e) (extents_ok s (before ++ (e ∷ [])) es) v λ v₁ v₂.
      let j : before ++ (e ∷ []) ++ es ≡ before ++ (e ∷ es) = append_assoc before (e ∷ []) es in
      ap (get_extents s (suc n) before) (append_assoc (number_record extent_kind e) (concat_map (number_record extent_kind) es) rest)
      ∙ extents_more s n before (number_record extent_kind e ++ (concat_map (number_record extent_kind) es ++ rest)) refl
      ∙ seq_there (extent_codec before) (λ e. get_extents s n (before ++ (e ∷ []))) e (concat_map (number_record extent_kind) es ++ rest) v₁
      ∙ extents_there n (before ++ (e ∷ [])) es rest (omega (arith, one_more before e)) v₂ c
      ∙ ap (λ (l : List ℕ). got l rest) j

  extents_none : (before bs all rest : List ℕ) → comes extent_kind bs ≡ false → got before bs ≡ got all rest → ExtentsRead s before all bs rest
  unfolding concat_map extents_ok
  extents_none before bs all rest c e = record {
    new = [];
    joins = sym (got_value e) ∙ sym (append-nil before);
    written = got_rest e;
    ok = refl;
    ends = ap (comes extent_kind) (sym (got_rest e)) ∙ c;
  }

  -- extents that were read were written so
  pub extents_back : (n : ℕ) (before bs all rest : List ℕ) → get_extents s n before bs ≡ got all rest → ExtentsRead s before all bs rest
  unfolding concat_map extents_ok
  extents_back zero before bs all rest e =
      by_test (comes extent_kind bs)
      (λ c. let f = sym (extents_full s before bs c) ∙ e in let z : ◌≡◌ {A = ℕ} 0 1 = cc in absurd (omega arith))
      (λ c. extents_none before bs all rest c (sym (extents_end s zero before bs c) ∙ e))
  extents_back (suc n) before bs all rest e =
      by_test (comes extent_kind bs)
      (λ c.
      seq_back (extent_codec before) (λ e. get_extents s n (before ++ (e ∷ []))) bs all rest (sym (extents_more s n before bs c) ∙ e) λ x m p v q.
      let h = extents_back n (before ++ (x ∷ [])) m all rest q in
      record {
        new = x ∷ h.new;
        joins = h.joins ∙ append_assoc before (x ∷ []) h.new;
        written =
            p ∙ ap (λ (l : List ℕ). number_record extent_kind x ++ l) h.written
            ∙ sym (append_assoc (number_record extent_kind x) (concat_map (number_record extent_kind) h.new) rest);
        ok = true_both (extent_ok s before x) (extents_ok s (before ++ (x ∷ [])) h.new) v h.ok;
        ends = h.ends;
      })
      (λ c. extents_none before bs all rest c (sym (extents_end s (suc n) before bs c) ∙ e))

-- ---- the list
-- what was read where n places were read after others
pub record OrderRead (s : Picker) (n : ℕ) (before all bytes rest : List ℕ) : Type 0 where
  pub new : List ℕ
  pub joins : all ≡ before ++ new
  pub written : bytes ≡ concat_map (number_record place_kind) new ++ rest
  pub counted : len new ≡ n
  pub ok : order_ok s before new ≡ true

module _ (s : Picker) (lim : pieces_in s ≤ max_pieces) where
  place_codec : (before : List ℕ) → Codec (number_record place_kind) (judged place_kind (read_place s before)) (λ i. place_ok s before i ≡ true)
  unfolding read_place body_length nth place_ok
  place_codec before =
      number_codec place_kind (place_ok s before) refl (λ i v.
      both (ltb i (pieces_in s)) _ v λ a w.
      omega (arith, ltb-true i (pieces_in s) a))

  -- n places after others
  pub order_there : (n : ℕ) (before is rest : List ℕ) → len is ≡ n → order_ok s before is ≡ true
      → get_order s n before (concat_map (number_record place_kind) is ++ rest) ≡ got (before ++ is) rest
  unfolding get_order concat_map order_ok len
  order_there zero before [] rest h v = ap (λ (l : List ℕ). got l rest) (sym (append-nil before))
  order_there zero before (i ∷ is) rest h v = absurd (omega arith)
  order_there (suc n) before [] rest h v = absurd (omega arith)
  order_there (suc n) before (i ∷ is) rest h v =
      both (place_ok s before i) (order_ok s (before ++ (i ∷ [])) is) v λ v₁ v₂.
      ap (get_order s (suc n) before) (append_assoc (number_record place_kind i) (concat_map (number_record place_kind) is) rest)
      ∙ seq_there (place_codec before) (λ i. get_order s n (before ++ (i ∷ []))) i (concat_map (number_record place_kind) is ++ rest) v₁
      ∙ order_there n (before ++ (i ∷ [])) is rest (omega arith) v₂
      ∙ ap (λ (l : List ℕ). got l rest) (append_assoc before (i ∷ []) is)

  -- places that were read were written so
  pub order_back : (n : ℕ) (before bs all rest : List ℕ) → get_order s n before bs ≡ got all rest → OrderRead s n before all bs rest
  unfolding get_order concat_map order_ok len
  order_back zero before bs all rest e = record {
    new = [];
    joins = sym (got_value e) ∙ sym (append-nil before);
    written = got_rest e;
    counted = refl;
    ok = refl;
  }
  order_back (suc n) before bs all rest e =
      seq_back (place_codec before) (λ i. get_order s n (before ++ (i ∷ []))) bs all rest e λ i m p v q.
      let h = order_back n (before ++ (i ∷ [])) m all rest q in
      record {
        new = i ∷ h.new;
        joins = h.joins ∙ append_assoc before (i ∷ []) h.new;
        written =
            p ∙ ap (λ (l : List ℕ). number_record place_kind i ++ l) h.written
            ∙ sym (append_assoc (number_record place_kind i) (concat_map (number_record place_kind) h.new) rest);
        counted = ap suc h.counted;
        ok = true_both (place_ok s before i) (order_ok s (before ++ (i ∷ [])) h.new) v h.ok;
      }

  -- the list, dirty or not; the head has told which
  pub listing_there : (l : Listing) (rest : List ℕ) → listing_ok s l ≡ true
      → get_listing s (unread l) (concat_map (number_record place_kind) (list_of l) ++ rest) ≡ got l rest
  unfolding get_listing listing_ok list_of concat_map next
  listing_there dirty rest v = refl
  listing_there (fresh l) rest v =
      both (eqb (len l) (len (with_bucket s))) (order_ok s [] l) v λ v₁ v₂.
      ap (λ (g : Got (List ℕ)). next g (λ is. ret (fresh is)))
      (order_there (len (with_bucket s)) [] l rest (eqb-true (len l) (len (with_bucket s)) v₁) v₂)

  -- a list that was read was written so
  pub listing_back : (m l : Listing) (bs rest : List ℕ) → get_listing s m bs ≡ got l rest
      → (bs ≡ concat_map (number_record place_kind) (list_of l) ++ rest) × ((listing_ok s l ≡ true) × (is_dirty l ≡ is_dirty m))
  unfolding get_listing listing_ok list_of concat_map is_dirty
  listing_back dirty l bs rest e =
      subst (λ (x : Listing). (bs ≡ concat_map (number_record place_kind) (list_of x) ++ rest) × ((listing_ok s x ≡ true) × (is_dirty x ≡ true))) (got_value e)
      (got_rest e, (refl, refl))
  listing_back (fresh k) l bs rest e =
      next_back (get_order s (len (with_bucket s)) [] bs) _ l rest e λ is m p q.
      let h = order_back (len (with_bucket s)) [] bs is m p in
      subst (λ (x : Listing). (bs ≡ concat_map (number_record place_kind) (list_of x) ++ rest) × ((listing_ok s x ≡ true) × (is_dirty x ≡ false))) (got_value q) (
        h.written ∙ ap₂ (λ (x y : List ℕ). concat_map (number_record place_kind) x ++ y) (sym h.joins) (got_rest q),
        (
          true_both (eqb (len is) (len (with_bucket s))) (order_ok s [] is) (eq-eqb (len is) (len (with_bucket s)) (ap len h.joins ∙ h.counted))
              (ap (order_ok s []) h.joins ∙ h.ok),
          refl,
        ),
      )
