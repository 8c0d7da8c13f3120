-- What the definition's readers found, by place: the numbers that stand in the bytes, that they obey their rules, and where the rest
-- starts. Assumes nothing.
use mathlib.Core.Path.{◌≡◌, refl, sym, ap, ap₂, ◌∙◌}
use mathlib.Core.Bool.{Bool, true, false, ◌&&◌}
use mathlib.Core.List.{List, [], ◌∷◌, ◌++◌, append_assoc, append-nil}
use mathlib.Core.Option.{Option, none, some}
use Prim.Native.Nat.{ℕ, zero, suc, ◌+◌, ◌*◌, ◌≤◌, ◌<◌}
use native.Mathlib.Omega.{arith}
use lib.Dec.{eqb, ltb, leb}
use lib.ListN.{length, drop}
use borrow.Author.Tests.{eqb-true, leb-true, ltb-true}
use Rattle.model.specs.Lists.{nth}
use Rattle.model.specs.State.{Piece, Block, DownloadingPiece, Picker, max_peers, max_priority, pieces_in, blocks_in_piece}
use Rattle.model.specs.image.WellFormed.{piece_ok, state_ok, place_ok}
use Rattle.model.specs.image.Image.{body_length, piece_kind, partial_kind, block_kind, extent_kind, place_kind, Got, got, fault}
use Rattle.model.specs.image.Image.{starts_with, judged, field, last_queue, last_block_state, all_flags, piece_of, read_piece, peer_fits}
use Rattle.model.specs.image.Image.{block_of, read_block, last_fits, read_last_block, read_partial, get_pieces, get_blocks, partial_with, get_partial}
use Rattle.model.specs.image.Image.{read_extent, comes, get_extents, read_place, get_order}
use Rattle.model.proofs.base.Truths.{both_true, by_test}
use Rattle.model.proofs.image.Codec.{got_value, got_rest, next_back, obeying_back}
use Rattle.model.proofs.image.Parts.{extents_end, extents_full, extents_more}
use Rattle.memory_layout.specs.Tables.{tabulate}
use Rattle.memory_layout.proofs.TableLaws.{tabulate_ext}
use Rattle.image_records.specs.Records.{body_at}
use Rattle.image_records.proofs.FrontLaws.{judged_none, judged_cases, body_field}
use Rattle.image_pieces.specs.Pieces.{piece_place, piece_body, piece_in}
use Rattle.image_tail.specs.Extents.{extent_at, extents_before}
use Rattle.image_columns.specs.Columns.{block_body, block_in, flags_at}
use Rattle.image_store.specs.Given.{PieceTold}

-- ---- one record
pub record JudgedAt {A : Type 0} (kind : ℕ) (read : List ℕ → Option A) (at : ℕ) (bytes : List ℕ) (a : A) (rest : List ℕ) : Type 0 where
  pub room : at + suc (body_length kind) ≤ length bytes
  pub value : read (body_at kind at bytes) ≡ some a
  pub behind : rest ≡ drop (at + suc (body_length kind)) bytes
  pub stands : starts_with kind (drop at bytes) ≡ true

never : {A X : Type 0} (a : A) (m n : List ℕ) → ◌≡◌ {A = Got A} (fault m) (got a n) → X
never a m n e = let z : ◌≡◌ {A = ℕ} 0 1 = cc in absurd (omega arith)

module _ {A : Type 0} (kind : ℕ) (read : List ℕ → Option A) (at : ℕ) (bytes : List ℕ) (a : A) (rest : List ℕ) where
  pub judged-at : judged kind read (drop at bytes) ≡ got a rest → JudgedAt kind read at bytes a rest
  judged-at e =
      judged_cases kind read at bytes (λ f. never a (drop at bytes) rest (sym f ∙ e))
      (λ x room r f.
      let g : got x (drop (at + suc (body_length kind)) bytes) ≡ got a rest = sym f ∙ e in
      record {
        room = room;
        value = r ∙ ap some (got_value g);
        behind = sym (got_rest g);
        stands =
            by_test (starts_with kind (drop at bytes)) (λ t. t)
            (λ t. never a (drop at bytes) rest (sym (judged_none kind read (drop at bytes) t) ∙ e));
      })

-- ---- the pieces
pub record PiecesFound (i m : ℕ) (bytes : List ℕ) (ps : List Piece) (rest : List ℕ) : Type 0 where
  pub is : ps ≡ tabulate m (λ j. piece_in bytes (i + j))
  pub behind : rest ≡ drop (piece_place (i + m)) bytes
  pub room : piece_place (i + m) ≤ length bytes
  pub told : (j : ℕ) → j < m → PieceTold bytes (i + j)

-- the rule of one
piece_told : (s : Picker) (i : ℕ) (bytes : List ℕ) (p : Piece) → read_piece s i (piece_body bytes i) ≡ some p
    → (piece_in bytes i ≡ p) × PieceTold bytes i
unfolding read_piece piece_ok piece_of piece_in
piece_told s i bytes p e =
    let body = piece_body bytes i in
    obeying_back _ (piece_of body) p e λ t q.
    let a = both_true (leb (field 2 1 body) last_queue) _ t in
    let b = both_true (leb (field 4 1 body) 1) _ a.1 in
    let c = both_true (leb (field 0 2 body + s.seeds) max_peers) _ b.1 in
    let d = both_true (leb (field 3 1 body) max_priority) _ c.1 in (
      q,
      record {
        state = leb-true (field 2 1 body) last_queue a.0;
        flushed = leb-true (field 4 1 body) 1 b.0;
        count = omega (arith, leb-true (field 0 2 body + s.seeds) max_peers c.0);
        priority = leb-true (field 3 1 body) max_priority d.0;
      },
    )

pub pieces_found : (s : Picker) (bytes : List ℕ) (m i : ℕ) (ps : List Piece) (rest : List ℕ) → piece_place i ≤ length bytes
    → get_pieces s i m (drop (piece_place i) bytes) ≡ got ps rest → PiecesFound i m bytes ps rest
unfolding get_pieces tabulate body_length nth piece_body
pieces_found s bytes zero i ps rest h e =
    let z : i ≡ i + 0 = omega arith in
    record {
      is = sym (got_value e);
      behind = sym (got_rest e) ∙ ap (λ (k : ℕ). drop (piece_place k) bytes) z;
      room = omega arith;
      told = λ j l. absurd (omega arith);
    }
pieces_found s bytes (suc m) i ps rest h e =
    next_back (judged piece_kind (read_piece s i) (drop (piece_place i) bytes)) _ ps rest e λ p m₁ e₁ q₁.
    next_back (get_pieces s (suc i) m m₁) _ ps rest q₁ λ qs m₂ e₂ q₂.
    let g = judged-at piece_kind (read_piece s i) (piece_place i) bytes p m₁ e₁ in
    let t = piece_told s i bytes p g.value in
    let z : piece_place i + 10 ≡ piece_place (suc i) = omega arith in
    let b : m₁ ≡ drop (piece_place (suc i)) bytes = g.behind ∙ ap (λ (k : ℕ). drop k bytes) z in
    let f = pieces_found s bytes m (suc i) qs m₂ (omega (arith, g.room)) (ap (get_pieces s (suc i) m) (sym b) ∙ e₂) in
    let y : suc i + m ≡ i + suc m = omega arith in
    let o : i ≡ i + 0 = omega arith in
    record {
      is =
          sym (got_value q₂)
          ∙ ap₂ ◌∷◌ (sym t.0 ∙ ap (piece_in bytes) o)
          (f.is ∙ tabulate_ext m (λ j. piece_in bytes (suc i + j)) (λ j. piece_in bytes (i + suc j)) (λ j l. ap (piece_in bytes)
          (omega arith)));
      behind = sym (got_rest q₂) ∙ f.behind ∙ ap (λ (k : ℕ). drop (piece_place k) bytes) y;
      room = omega (arith, f.room);
      told = tell t.1 f.told;
    }
  where
    tell : PieceTold bytes i → ((j : ℕ) → j < m → PieceTold bytes (suc i + j)) → (j : ℕ) → j < suc m → PieceTold bytes (i + j)
    tell a b zero l = let z : i + 0 ≡ i = omega arith in rw z a
    tell a b (suc j) l = let z : i + suc j ≡ suc i + j = omega arith in rw z (b j (omega arith))

-- ---- the blocks of a partial
-- block j as its record was judged
pub record BlockTold (start : ℕ) (bytes : List ℕ) (j : ℕ) : Type 0 where
  pub state : field 0 1 (block_body start bytes j) ≤ last_block_state
  pub has : field 3 1 (block_body start bytes j) ≤ 1

pub record BlocksFound (start m : ℕ) (bytes : List ℕ) (before all : List Block) (rest : List ℕ) : Type 0 where
  pub is : all ≡ before ++ tabulate m (block_in start bytes)
  pub behind : rest ≡ drop (start + 13 * m) bytes
  pub room : start + 13 * m ≤ length bytes
  pub told : (j : ℕ) → j < m → BlockTold start bytes j

peer_has : (has peer : ℕ) → peer_fits has peer ≡ true → has ≤ 1
unfolding peer_fits
peer_has has peer e =
    by_test (eqb has 1) (λ t. omega (arith, eqb-true has 1 t))
    (λ t.
    let f : (eqb has 0 && eqb peer 0) ≡ true = rw t at e in
    omega (arith, eqb-true has 0 (both_true (eqb has 0) (eqb peer 0) f).0))

block_told : (start j : ℕ) (bytes : List ℕ) (b : Block) → read_block (block_body start bytes j) ≡ some b
    → (block_in start bytes j ≡ b) × BlockTold start bytes j
unfolding read_block block_in
block_told start j bytes b e =
    let body = block_body start bytes j in
    obeying_back _ (block_of body) b e λ t q.
    let u = both_true (leb (field 0 1 body) last_block_state) _ t in
    let v = both_true (peer_fits (field 3 1 body) (field 4 8 body)) _ u.1 in (
      q,
      record {
        state = leb-true (field 0 1 body) last_block_state u.0;
        has = peer_has (field 3 1 body) (field 4 8 body) v.0;
      },
    )

-- the last one obeys a further rule
last_back : {X : Type 0} (fits : List Block → Bool) (before : List Block) (o : Option Block) (b : Block) → last_fits fits before o ≡ some b
    → (o ≡ some b → X) → X
unfolding last_fits
last_back fits before none b e k = let z : ◌≡◌ {A = ℕ} 0 1 = cc in absurd (omega arith)
last_back fits before (some x) b e k = obeying_back (fits (before ++ (x ∷ []))) x b e λ t q. k (ap some q)

module _ (start : ℕ) (bytes : List ℕ) where
  first_block : block_body start bytes 0 ≡ body_at block_kind start bytes
  unfolding block_body
  first_block = let z : start + 13 * 0 ≡ start = omega arith in ap (λ (k : ℕ). body_at block_kind k bytes) z

  later_block : (j : ℕ) → block_in (start + 13) bytes j ≡ block_in start bytes (suc j)
  unfolding block_in block_body
  later_block j =
      let z : start + 13 + 13 * j ≡ start + 13 * suc j = omega arith in
      ap (λ (k : ℕ). block_of (body_at block_kind k bytes)) z

  later_told : (j : ℕ) → BlockTold (start + 13) bytes j → BlockTold start bytes (suc j)
  unfolding block_body
  later_told j t =
      let z : start + 13 + 13 * j ≡ start + 13 * suc j = omega arith in
      record { state = rw (← z) t.state; has = rw (← z) t.has }

  tell_blocks : (m : ℕ) → BlockTold start bytes 0 → ((j : ℕ) → j < m → BlockTold (start + 13) bytes j) → (j : ℕ) → j < suc m
      → BlockTold start bytes j
  tell_blocks m a b zero l = a
  tell_blocks m a b (suc j) l = later_told j (b j (omega arith))

  -- one more in front of those behind it
  blocks_more : (m : ℕ) (before all : List Block) (b : Block) (rest : List ℕ) → (block_in start bytes 0 ≡ b) × BlockTold start bytes 0
      → BlocksFound (start + 13) m bytes (before ++ (b ∷ [])) all rest → BlocksFound start (suc m) bytes before all rest
  unfolding tabulate
  blocks_more m before all b rest t f = record {
    is =
        f.is ∙ append_assoc before (b ∷ []) (tabulate m (block_in (start + 13) bytes))
        ∙ ap (λ (l : List Block). before ++ l)
        (ap₂ ◌∷◌ (sym t.0) (tabulate_ext m (block_in (start + 13) bytes) (λ j. block_in start bytes (suc j)) (λ j l. later_block j)));
    behind = let z : start + 13 + 13 * m ≡ start + 13 * suc m = omega arith in f.behind ∙ ap (λ (k : ℕ). drop k bytes) z;
    room = omega (arith, f.room);
    told = tell_blocks m t.1 f.told;
  }

  blocks_none : (before : List Block) → start ≤ length bytes → BlocksFound start 0 bytes before before (drop start bytes)
  unfolding tabulate
  blocks_none before h =
      let z : start ≡ start + 13 * 0 = omega arith in
      record {
        is = sym (append-nil before);
        behind = ap (λ (k : ℕ). drop k bytes) z;
        room = omega arith;
        told = λ j l. absurd (omega arith);
      }

found_same : (start m : ℕ) (bytes : List ℕ) (before all all' : List Block) (rest rest' : List ℕ) → got all rest ≡ got all' rest'
    → BlocksFound start m bytes before all rest → BlocksFound start m bytes before all' rest'
found_same start m bytes before all all' rest rest' e f = record {
  is = sym (got_value e) ∙ f.is;
  behind = sym (got_rest e) ∙ f.behind;
  room = f.room;
  told = f.told;
}

pub blocks_found : (fits : List Block → Bool) (bytes : List ℕ) (m start : ℕ) (before all : List Block) (rest : List ℕ)
    → start ≤ length bytes → get_blocks fits before m (drop start bytes) ≡ got all rest → BlocksFound start m bytes before all rest
unfolding get_blocks body_length nth read_last_block
blocks_found fits bytes zero start before all rest h e =
    found_same start 0 bytes before before all (drop start bytes) rest e (blocks_none start bytes before h)
blocks_found fits bytes (suc zero) start before all rest h e =
    next_back (judged block_kind (read_last_block fits before) (drop start bytes)) _ all rest e λ b m₁ e₁ q₁.
    let g = judged-at block_kind (read_last_block fits before) start bytes b m₁ e₁ in
    last_back fits before (read_block (body_at block_kind start bytes)) b g.value λ r.
    let t = block_told start 0 bytes b (ap read_block (first_block start bytes) ∙ r) in
    found_same start 1 bytes before (before ++ (b ∷ [])) all (drop (start + 13) bytes) rest
    (ap (got (before ++ (b ∷ []))) (sym g.behind) ∙ q₁)
    (blocks_more start bytes 0 before (before ++ (b ∷ [])) b (drop (start + 13) bytes) t
    (blocks_none (start + 13) bytes (before ++ (b ∷ [])) g.room))
blocks_found fits bytes (suc (suc m)) start before all rest h e =
    next_back (judged block_kind read_block (drop start bytes)) _ all rest e λ b m₁ e₁ q₁.
    let g = judged-at block_kind read_block start bytes b m₁ e₁ in
    let t = block_told start 0 bytes b (ap read_block (first_block start bytes) ∙ g.value) in
    blocks_more start bytes (suc m) before all b rest t
    (blocks_found fits bytes (suc m) (start + 13) (before ++ (b ∷ [])) all rest g.room
    (ap (get_blocks fits (before ++ (b ∷ [])) (suc m)) (sym g.behind) ∙ q₁))

-- ---- a partial
pub record PartialFound (s : Picker) (i n at : ℕ) (bytes : List ℕ) (d : DownloadingPiece) (rest : List ℕ) : Type 0 where
  pub few : n < 512
  pub flags : flags_at at bytes ≤ all_flags
  pub is : d ≡ partial_with i (flags_at at bytes) (tabulate (blocks_in_piece s i) (block_in (at + 6) bytes))
  pub behind : rest ≡ drop (at + 6 + 13 * blocks_in_piece s i) bytes
  pub room : at + 6 + 13 * blocks_in_piece s i ≤ length bytes
  pub told : (j : ℕ) → j < blocks_in_piece s i → BlockTold (at + 6) bytes j

pub partial_found : (s : Picker) (i n at : ℕ) (p : Piece) (bytes : List ℕ) (d : DownloadingPiece) (rest : List ℕ)
    → get_partial s i n p (drop at bytes) ≡ got d rest → PartialFound s i n at bytes d rest
unfolding get_partial read_partial body_length nth flags_at
partial_found s i n at p bytes d rest e =
    next_back (judged partial_kind (read_partial i n) (drop at bytes)) _ d rest e λ flags m₁ e₁ q₁.
    next_back (get_blocks (λ blocks. state_ok p (partial_with i flags blocks)) [] (blocks_in_piece s i) m₁) _ d rest q₁ λ bs m₂ e₂ q₂.
    let g = judged-at partial_kind (read_partial i n) at bytes flags m₁ e₁ in
    let body = body_at partial_kind at bytes in
    obeying_back _ (field 4 1 body) flags g.value λ t q.
    let u = both_true (eqb (field 0 4 body) i) _ t in
    let v = both_true (leb (field 4 1 body) all_flags) _ u.1 in
    let f = blocks_found (λ blocks. state_ok p (partial_with i flags blocks)) bytes (blocks_in_piece s i) (at + 6) [] bs m₂ g.room
    (ap (get_blocks (λ blocks. state_ok p (partial_with i flags blocks)) [] (blocks_in_piece s i)) (sym g.behind) ∙ e₂) in
    record {
      few = ltb-true n 512 v.1;
      flags = leb-true (field 4 1 body) all_flags v.0;
      is = sym (got_value q₂) ∙ ap₂ (partial_with i) (sym q) f.is;
      behind = sym (got_rest q₂) ∙ f.behind;
      room = f.room;
      told = f.told;
    }

-- ---- numbers one after another
first_number : (kind at : ℕ) (bytes : List ℕ) → body_length kind ≡ 4 → field 0 4 (body_at kind at bytes) ≡ extent_at at bytes 0
unfolding extent_at
first_number kind at bytes e =
    let z : at + 1 + 0 ≡ at + 5 * 0 + 1 = omega arith in
    body_field kind at 0 4 bytes (omega arith) ∙ ap (λ (k : ℕ). field k 4 bytes) z

pub later_number : (at : ℕ) (bytes : List ℕ) (j : ℕ) → extent_at (at + 5) bytes j ≡ extent_at at bytes (suc j)
unfolding extent_at
later_number at bytes j = let z : at + 5 + 5 * j + 1 ≡ at + 5 * suc j + 1 = omega arith in ap (λ (k : ℕ). field k 4 bytes) z

numbers_more : (at m : ℕ) (bytes before all : List ℕ) (x : ℕ) → extent_at at bytes 0 ≡ x
    → all ≡ before ++ (x ∷ []) ++ extents_before (at + 5) m bytes → all ≡ before ++ extents_before at (suc m) bytes
unfolding extents_before tabulate
numbers_more at m bytes before all x e f =
    f ∙ append_assoc before (x ∷ []) (tabulate m (extent_at (at + 5) bytes))
    ∙ ap (λ (l : List ℕ). before ++ l)
    (ap₂ ◌∷◌ (sym e) (tabulate_ext m (extent_at (at + 5) bytes) (λ j. extent_at at bytes (suc j)) (λ j l. later_number at bytes j)))

-- ---- the extents
pub record ExtentsFound (n at : ℕ) (bytes before all rest : List ℕ) : Type 0 where
  pub many : ℕ
  pub most : many ≤ n
  pub is : all ≡ before ++ extents_before at many bytes
  pub behind : rest ≡ drop (at + 5 * many) bytes
  pub room : at + 5 * many ≤ length bytes
  pub come : (j : ℕ) → j < many → starts_with extent_kind (drop (at + 5 * j) bytes) ≡ true
  pub stop : starts_with extent_kind (drop (at + 5 * many) bytes) ≡ false

not_coming : (kind : ℕ) (bs : List ℕ) → comes kind bs ≡ false → starts_with kind bs ≡ false
unfolding comes starts_with
not_coming kind [] e = refl
not_coming kind (b ∷ bs) e = rw e

extents_none : (n at : ℕ) (bytes before all rest : List ℕ) → at ≤ length bytes → comes extent_kind (drop at bytes) ≡ false
    → got before (drop at bytes) ≡ got all rest → ExtentsFound n at bytes before all rest
unfolding extents_before tabulate
extents_none n at bytes before all rest h c e =
    let z : at ≡ at + 5 * 0 = omega arith in
    record {
      many = 0;
      most = omega arith;
      is = sym (got_value e) ∙ sym (append-nil before);
      behind = sym (got_rest e) ∙ ap (λ (k : ℕ). drop k bytes) z;
      room = omega arith;
      come = λ j l. absurd (omega arith);
      stop = ap (λ (k : ℕ). starts_with extent_kind (drop k bytes)) (sym z) ∙ not_coming extent_kind (drop at bytes) c;
    }

extents_one : (n at : ℕ) (bytes before all rest : List ℕ) (x : ℕ) → extent_at at bytes 0 ≡ x
    → starts_with extent_kind (drop at bytes) ≡ true → ExtentsFound n (at + 5) bytes (before ++ (x ∷ [])) all rest
    → ExtentsFound (suc n) at bytes before all rest
extents_one n at bytes before all rest x e s f =
    let z : at + 5 + 5 * f.many ≡ at + 5 * suc f.many = omega arith in
    record {
      many = suc f.many;
      most = omega (arith, f.most);
      is = numbers_more at f.many bytes before all x e f.is;
      behind = f.behind ∙ ap (λ (k : ℕ). drop k bytes) z;
      room = omega (arith, f.room);
      come = coming f.many f.come;
      stop = ap (λ (k : ℕ). starts_with extent_kind (drop k bytes)) (sym z) ∙ f.stop;
    }
  where
    coming : (m : ℕ) → ((j : ℕ) → j < m → starts_with extent_kind (drop (at + 5 + 5 * j) bytes) ≡ true) → (j : ℕ) → j < suc m
        → starts_with extent_kind (drop (at + 5 * j) bytes) ≡ true
    coming m g zero l = let y : at + 5 * 0 ≡ at = omega arith in ap (λ (k : ℕ). starts_with extent_kind (drop k bytes)) y ∙ s
    coming m g (suc j) l =
        let y : at + 5 * suc j ≡ at + 5 + 5 * j = omega arith in
        ap (λ (k : ℕ). starts_with extent_kind (drop k bytes)) y ∙ g j (omega arith)

pub extents_found : (s : Picker) (bytes : List ℕ) (n at : ℕ) (before all rest : List ℕ) → at ≤ length bytes
    → get_extents s n before (drop at bytes) ≡ got all rest → ExtentsFound n at bytes before all rest
unfolding read_extent body_length nth
extents_found s bytes zero at before all rest h e =
    by_test (comes extent_kind (drop at bytes))
    (λ c. never all (drop at bytes) rest (sym (extents_full s before (drop at bytes) c) ∙ e))
    (λ c. extents_none 0 at bytes before all rest h c (sym (extents_end s zero before (drop at bytes) c) ∙ e))
extents_found s bytes (suc n) at before all rest h e =
    by_test (comes extent_kind (drop at bytes))
    (λ c.
    next_back (judged extent_kind (read_extent s before) (drop at bytes)) (λ x. get_extents s n (before ++ (x ∷ []))) all rest
    (sym (extents_more s n before (drop at bytes) c) ∙ e) λ x m₁ e₁ q₁.
    let g = judged-at extent_kind (read_extent s before) at bytes x m₁ e₁ in
    obeying_back _ (field 0 4 (body_at extent_kind at bytes)) x g.value λ t q.
    extents_one n at bytes before all rest x (sym (first_number extent_kind at bytes refl) ∙ q) g.stands
    (extents_found s bytes n (at + 5) (before ++ (x ∷ [])) all rest g.room
    (ap (get_extents s n (before ++ (x ∷ []))) (sym g.behind) ∙ q₁)))
    (λ c. extents_none (suc n) at bytes before all rest h c (sym (extents_end s (suc n) before (drop at bytes) c) ∙ e))

-- ---- the places of the list
pub record OrderFound (s : Picker) (m at : ℕ) (bytes before all rest : List ℕ) : Type 0 where
  pub is : all ≡ before ++ extents_before at m bytes
  pub behind : rest ≡ drop (at + 5 * m) bytes
  pub room : at + 5 * m ≤ length bytes
  pub low : (j : ℕ) → j < m → extent_at at bytes j < pieces_in s

place_low : (s : Picker) (before : List ℕ) (x : ℕ) → place_ok s before x ≡ true → x < pieces_in s
unfolding place_ok
place_low s before x t = ltb-true x (pieces_in s) (both_true (ltb x (pieces_in s)) _ t).0

pub order_found : (s : Picker) (bytes : List ℕ) (m at : ℕ) (before all rest : List ℕ) → at ≤ length bytes
    → get_order s m before (drop at bytes) ≡ got all rest → OrderFound s m at bytes before all rest
unfolding get_order read_place body_length nth extents_before tabulate
order_found s bytes zero at before all rest h e =
    let z : at ≡ at + 5 * 0 = omega arith in
    record {
      is = sym (got_value e) ∙ sym (append-nil before);
      behind = sym (got_rest e) ∙ ap (λ (k : ℕ). drop k bytes) z;
      room = omega arith;
      low = λ j l. absurd (omega arith);
    }
order_found s bytes (suc m) at before all rest h e =
    next_back (judged place_kind (read_place s before) (drop at bytes)) (λ x. get_order s m (before ++ (x ∷ []))) all rest e λ x m₁ e₁ q₁.
    let g = judged-at place_kind (read_place s before) at bytes x m₁ e₁ in
    obeying_back _ (field 0 4 (body_at place_kind at bytes)) x g.value λ t q.
    let y : extent_at at bytes 0 ≡ field 0 4 (body_at place_kind at bytes) = sym (first_number place_kind at bytes refl) in
    let f = order_found s bytes m (at + 5) (before ++ (x ∷ [])) all rest g.room
    (ap (get_order s m (before ++ (x ∷ []))) (sym g.behind) ∙ q₁) in
    let z : at + 5 + 5 * m ≡ at + 5 * suc m = omega arith in
    record {
      is = numbers_more at m bytes before all x (y ∙ q) f.is;
      behind = f.behind ∙ ap (λ (k : ℕ). drop k bytes) z;
      room = omega (arith, f.room);
      low = lower (omega (arith, y, place_low s before (field 0 4 (body_at place_kind at bytes)) t)) f.low;
    }
  where
    lower : extent_at at bytes 0 < pieces_in s → ((j : ℕ) → j < m → extent_at (at + 5) bytes j < pieces_in s) → (j : ℕ) → j < suc m
        → extent_at at bytes j < pieces_in s
    lower a b zero l = a
    lower a b (suc j) l = omega (arith, b j (omega arith), later_number at bytes j)
