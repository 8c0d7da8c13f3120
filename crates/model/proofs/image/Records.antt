-- The records of an image: each is read as it was written, and only so, where its value obeys its rule.
use mathlib.Core.Path.{◌≡◌, refl, sym, ap, ap₂, ◌∙◌, subst}
use mathlib.Core.Bool.{Bool, true, false, cond, not, ◌||◌, true≢false}
use mathlib.Core.List.{List, [], ◌∷◌, ◌++◌}
use mathlib.Core.Option.{Option, none, some}
use Prim.Native.Nat.{ℕ, zero, suc, ◌+◌, ◌*◌, ◌^◌, ◌≤◌, ◌<◌}
use native.Mathlib.Omega.{arith}
use lib.Dec.{eqb, ltb, leb}
use borrow.Author.Tests.{leb-true, le-leb, ltb-true, eqb-true, eq-eqb, ne_eqb}
use Rattle.types.specs.declared.queue.DownloadQueue.{DownloadQueue}
use Rattle.types.specs.declared.queue.DownloadQueue.TheVariants.{Downloading, Full, Finished as FinishedQueue, ZeroPrio, Open}
use Rattle.types.specs.declared.queue.DownloadQueue.TheVariants.{DownloadingReverse, FullReverse}
use Rattle.types.specs.declared.block.BlockState.{BlockState}
use Rattle.types.specs.declared.block.BlockState.TheVariants.{None, Requested, Writing, Finished}
use Rattle.types.specs.Queue.{queue_number, queues}
use Rattle.types.specs.Block.{block_state_number, block_states}
use Rattle.model.specs.Lists.{bit, nth, len}
use Rattle.model.specs.Bep3.{num_pieces, piece_length}
use Rattle.model.specs.State.{Piece, Block, Picker, Listing, dirty, fresh, max_peers, max_pieces, max_piece_size, max_partials, is_open}
use Rattle.model.specs.State.{is_dirty, piece_size_at, valid_geometry}
use Rattle.model.specs.image.WellFormed.{head_ok, piece_ok, block_ok, peer_ok}
use Rattle.model.specs.image.Image.{body_length, head_kind, piece_kind, partial_kind, block_kind, bytes_of, head_record, piece_record}
use Rattle.model.specs.image.Image.{peer_bytes, block_record, number_record, field, Reader, judged, obeying, head_of, read_head, piece_of}
use Rattle.model.specs.image.Image.{read_piece, peer_fits, peer_of, block_of, read_block, last_fits, read_last_block, read_partial}
use Rattle.model.proofs.base.Bep3Laws.{piece_length_le, num_pieces_le}
use Rattle.model.proofs.image.Bytes.{size_append, Bytes, bytes_append, bytes_of_size, bytes_of_bytes, field_first, field_last}
use Rattle.model.proofs.image.Bytes.{field_behind, field_part, field_end}
use Rattle.model.proofs.image.Codec.{Codec, record_codec, obeying_there, obeying_back}
use Rattle.model.proofs.base.Truths.{both, true_both}

-- ---- numbers of flags and states
bit_below : (h : Bool) → bit h ≤ 1
bit_below true = omega arith
bit_below false = omega arith

bit_back : (h : Bool) → eqb (bit h) 1 ≡ h
bit_back true = refl
bit_back false = refl

bit_forth : (n : ℕ) → n ≤ 1 → bit (eqb n 1) ≡ n
bit_forth zero h = refl
bit_forth (suc zero) h = refl
bit_forth (suc (suc n)) h = absurd (omega arith)

pub queue_below : (q : DownloadQueue) → queue_number q ≤ 6
queue_below Downloading = omega arith
queue_below Full = omega arith
queue_below FinishedQueue = omega arith
queue_below ZeroPrio = omega arith
queue_below Open = omega arith
queue_below DownloadingReverse = omega arith
queue_below FullReverse = omega arith

queue_back : (q : DownloadQueue) → nth Open queues (queue_number q) ≡ q
unfolding nth
queue_back Downloading = refl
queue_back Full = refl
queue_back FinishedQueue = refl
queue_back ZeroPrio = refl
queue_back Open = refl
queue_back DownloadingReverse = refl
queue_back FullReverse = refl

queue_forth : (n : ℕ) → n ≤ 6 → queue_number (nth Open queues n) ≡ n
unfolding nth
queue_forth zero h = refl
queue_forth (suc zero) h = refl
queue_forth (suc (suc zero)) h = refl
queue_forth (suc (suc (suc zero))) h = refl
queue_forth (suc (suc (suc (suc zero)))) h = refl
queue_forth (suc (suc (suc (suc (suc zero))))) h = refl
queue_forth (suc (suc (suc (suc (suc (suc zero)))))) h = refl
queue_forth (suc (suc (suc (suc (suc (suc (suc n))))))) h = absurd (omega arith)

pub state_below : (b : BlockState) → block_state_number b ≤ 3
state_below None = omega arith
state_below Requested = omega arith
state_below Writing = omega arith
state_below Finished = omega arith

state_back : (b : BlockState) → nth None block_states (block_state_number b) ≡ b
unfolding nth
state_back None = refl
state_back Requested = refl
state_back Writing = refl
state_back Finished = refl

state_forth : (n : ℕ) → n ≤ 3 → block_state_number (nth None block_states n) ≡ n
unfolding nth
state_forth zero h = refl
state_forth (suc zero) h = refl
state_forth (suc (suc zero)) h = refl
state_forth (suc (suc (suc zero))) h = refl
state_forth (suc (suc (suc (suc n)))) h = absurd (omega arith)

-- ---- a piece
abbrev piece_body : Piece → List ℕ
piece_body p =
    bytes_of 2 p.peer_count ++ (bytes_of 1 (queue_number p.state) ++ (bytes_of 1 p.priority ++ (bytes_of 1 (bit p.flushed) ++ bytes_of 4 p.pad_bytes)))

record PieceFits (p : Piece) : Type 0 where
  count_fits : p.peer_count < 65536
  priority_fits : p.priority < 256
  pad_fits : p.pad_bytes < 4294967296

piece_fits : (s : Picker) (i : ℕ) (p : Piece) → s.piece_size ≤ max_piece_size → piece_ok s i p ≡ true → PieceFits p
unfolding piece_ok piece_size_at
piece_fits s i p lim v =
    both (leb (p.peer_count + s.seeds) max_peers) _ v λ a v₁.
    both (leb p.priority 7) _ v₁ λ b v₂.
    both (not p.flushed || is_open p.state) _ v₂ λ c d.
    record {
      count_fits = omega (arith, leb-true (p.peer_count + s.seeds) max_peers a);
      priority_fits = omega (arith, leb-true p.priority 7 b);
      pad_fits = omega (arith, leb-true p.pad_bytes (piece_length s.total_size s.piece_size i) d, piece_length_le s.total_size s.piece_size i);
    }

record PieceFields (p : Piece) : Type 0 where
  count_is : field 0 2 (piece_body p) ≡ p.peer_count
  state_is : field 2 1 (piece_body p) ≡ queue_number p.state
  priority_is : field 3 1 (piece_body p) ≡ p.priority
  flushed_is : field 4 1 (piece_body p) ≡ bit p.flushed
  pad_is : field 5 4 (piece_body p) ≡ p.pad_bytes

piece_fields : (p : Piece) → PieceFits p → PieceFields p
piece_fields p f = record {
  count_is = field_first 2 p.peer_count _ (omega arith);
  state_is = field_behind 2 0 1 p.peer_count _ ∙ field_first 1 (queue_number p.state) _ (omega (arith, queue_below p.state));
  priority_is =
      field_behind 2 1 1 p.peer_count _
      ∙ field_behind 1 0 1 (queue_number p.state) _
      ∙ field_first 1 p.priority _ (omega arith);
  flushed_is =
      field_behind 2 2 1 p.peer_count _
      ∙ field_behind 1 1 1 (queue_number p.state) _
      ∙ field_behind 1 0 1 p.priority _
      ∙ field_first 1 (bit p.flushed) _ (omega (arith, bit_below p.flushed));
  pad_is =
      field_behind 2 3 4 p.peer_count _
      ∙ field_behind 1 2 4 (queue_number p.state) _
      ∙ field_behind 1 1 4 p.priority _
      ∙ field_behind 1 0 4 (bit p.flushed) _
      ∙ field_last 4 p.pad_bytes (omega arith);
}

piece_back : (p : Piece) → PieceFields p → piece_of (piece_body p) ≡ p
unfolding piece_of
piece_back p f =
    let a = f.count_is in
    let b = f.state_is in
    let c = f.priority_is in
    let d = f.flushed_is in
    let e = f.pad_is in
    rw (a, b, c, d, e, queue_back p.state, bit_back p.flushed)

-- a piece record is read back where the piece obeys its rule, and only such a record is read
pub piece_codec : (s : Picker) (i : ℕ) → s.piece_size ≤ max_piece_size
    → Codec piece_record (judged piece_kind (read_piece s i)) (λ p. piece_ok s i p ≡ true)
unfolding piece_record read_piece body_length nth piece_of
piece_codec s i lim = record_codec piece_kind (read_piece s i) piece_body (λ p. piece_ok s i p ≡ true) (record {
  sized = λ p. simp (size_append, bytes_of_size);
  bytes = λ p. search (bytes_append, bytes_of_bytes);
  fits = λ p v.
      let f = piece_fields p (piece_fits s i p lim v) in
      let e = piece_back p f in
      let b = f.state_is in
      let d = f.flushed_is in
      obeying_there _ (piece_of (piece_body p)) p
      (true_both (leb (field 2 1 (piece_body p)) 6) _ (le-leb (field 2 1 (piece_body p)) 6 (omega (arith, b, queue_below p.state)))
      (true_both (leb (field 4 1 (piece_body p)) 1) _ (le-leb (field 4 1 (piece_body p)) 1 (omega (arith, d, bit_below p.flushed))) (rw e v)))
      e;
  only = λ b p h v o.
      obeying_back _ (piece_of b) p o λ t q.
      both (leb (field 2 1 b) 6) _ t λ t₁ t₂.
      both (leb (field 4 1 b) 1) _ t₂ λ t₃ t₄.
      subst (λ (x : Piece). (b ≡ piece_body x) × (piece_ok s i x ≡ true)) q (
        field_part 0 2 _ b _ (omega arith) v refl
            (field_part 2 1 _ b _ (omega arith) v (sym (queue_forth (field 2 1 b) (leb-true (field 2 1 b) 6 t₁)))
            (field_part 3 1 _ b _ (omega arith) v refl
            (field_part 4 1 _ b _ (omega arith) v (sym (bit_forth (field 4 1 b) (leb-true (field 4 1 b) 1 t₃)))
            (field_end 5 4 _ b (omega arith) v refl)))),
        t₄,
      );
})

-- ---- a block
-- the two numbers of a peer
abbrev peer_flag : Option ℕ → ℕ
peer_flag none = 0
peer_flag (some n) = 1

abbrev peer_number : Option ℕ → ℕ
peer_number none = 0
peer_number (some n) = n

peer_written_lem : (o : Option ℕ) → bytes_of 1 (peer_flag o) ++ bytes_of 8 (peer_number o) ≡ peer_bytes o
unfolding peer_bytes
peer_written_lem none = refl
peer_written_lem (some n) = refl

peer_below : (o : Option ℕ) → peer_ok o ≡ true → (peer_flag o < 256) × (peer_number o < 256 ^ 8)
unfolding peer_ok
peer_below none v = (omega arith, omega arith)
peer_below (some n) v = (omega arith, ltb-true n (2 ^ 64) v)

peer_fits_lem : (o : Option ℕ) → peer_fits (peer_flag o) (peer_number o) ≡ true
unfolding peer_fits
peer_fits_lem none = refl
peer_fits_lem (some n) = refl

peer_back : (o : Option ℕ) → peer_of (peer_flag o) (peer_number o) ≡ o
unfolding peer_of
peer_back none = refl
peer_back (some n) = refl

peer_forth : (has n : ℕ) → peer_fits has n ≡ true → (has ≡ peer_flag (peer_of has n)) × (n ≡ peer_number (peer_of has n))
unfolding peer_fits peer_of
peer_forth zero n e = (refl, eqb-true n 0 e)
peer_forth (suc zero) n e = (refl, refl)
peer_forth (suc (suc k)) n e =
    let a = ne_eqb (suc (suc k)) 1 (λ q. omega arith) in
    let b = ne_eqb (suc (suc k)) 0 (λ q. omega arith) in
    absurd (true≢false (sym (rw (a, b) at e)))

abbrev block_body : Block → List ℕ
block_body b =
    bytes_of 1 (block_state_number b.state) ++ (bytes_of 2 b.num_peers ++ (bytes_of 1 (peer_flag b.peer) ++ bytes_of 8 (peer_number b.peer)))

block_written : (b : Block) → block_kind ∷ block_body b ≡ block_record b
unfolding block_record
block_written b =
    ap (λ (l : List ℕ). block_kind ∷ (bytes_of 1 (block_state_number b.state) ++ (bytes_of 2 b.num_peers ++ l))) (peer_written_lem b.peer)

record BlockFields (b : Block) : Type 0 where
  state_is : field 0 1 (block_body b) ≡ block_state_number b.state
  num_peers_is : field 1 2 (block_body b) ≡ b.num_peers
  flag_is : field 3 1 (block_body b) ≡ peer_flag b.peer
  number_is : field 4 8 (block_body b) ≡ peer_number b.peer

block_fields : (b : Block) → block_ok b ≡ true → BlockFields b
unfolding block_ok
block_fields b v =
    both (leb b.num_peers max_peers) (peer_ok b.peer) v λ v₁ v₂.
    let lim : b.num_peers ≤ max_peers = leb-true b.num_peers max_peers v₁ in
    let w = peer_below b.peer v₂ in
    record {
      state_is = field_first 1 (block_state_number b.state) _ (omega (arith, state_below b.state));
      num_peers_is = field_behind 1 0 2 (block_state_number b.state) _ ∙ field_first 2 b.num_peers _ (omega arith);
      flag_is =
          field_behind 1 2 1 (block_state_number b.state) _
          ∙ field_behind 2 0 1 b.num_peers _
          ∙ field_first 1 (peer_flag b.peer) _ w.0;
      number_is =
          field_behind 1 3 8 (block_state_number b.state) _
          ∙ field_behind 2 1 8 b.num_peers _
          ∙ field_behind 1 0 8 (peer_flag b.peer) _
          ∙ field_last 8 (peer_number b.peer) w.1;
    }

block_back : (b : Block) → BlockFields b → block_of (block_body b) ≡ b
unfolding block_of
block_back b f =
    let a = f.state_is in
    let c = f.num_peers_is in
    let d = f.flag_is in
    let e = f.number_is in
    rw (a, c, d, e, state_back b.state, peer_back b.peer)

block_there : (b : Block) → block_ok b ≡ true → read_block (block_body b) ≡ some b
unfolding read_block
block_there b v =
    let f = block_fields b v in
    let e = block_back b f in
    let a = f.state_is in
    let c = f.flag_is in
    let d = f.number_is in
    obeying_there _ (block_of (block_body b)) b
    (true_both (leb (field 0 1 (block_body b)) 3) _ (le-leb (field 0 1 (block_body b)) 3 (omega (arith, a, state_below b.state)))
    (true_both (peer_fits (field 3 1 (block_body b)) (field 4 8 (block_body b))) _ (ap₂ peer_fits c d ∙ peer_fits_lem b.peer) (rw e v)))
    e

block_only : (bs : List ℕ) (b : Block) → len bs ≡ 12 → Bytes bs → read_block bs ≡ some b → (bs ≡ block_body b) × (block_ok b ≡ true)
unfolding read_block block_of
block_only bs b h v o =
    obeying_back _ (block_of bs) b o λ t q.
    both (leb (field 0 1 bs) 3) _ t λ t₁ t₂.
    both (peer_fits (field 3 1 bs) (field 4 8 bs)) _ t₂ λ t₃ t₄.
    let w = peer_forth (field 3 1 bs) (field 4 8 bs) t₃ in
    subst (λ (x : Block). (bs ≡ block_body x) × (block_ok x ≡ true)) q (
      field_part 0 1 _ bs _ (omega arith) v (sym (state_forth (field 0 1 bs) (leb-true (field 0 1 bs) 3 t₁)))
          (field_part 1 2 _ bs _ (omega arith) v refl
          (field_part 3 1 _ bs _ (omega arith) v w.0 (field_end 4 8 _ bs (omega arith) v w.1))),
      t₄,
    )

block_sized : (b : Block) → len (block_body b) ≡ 12
block_sized b = simp (size_append, bytes_of_size)

block_bytes : (b : Block) → Bytes (block_body b)
block_bytes b = search (bytes_append, bytes_of_bytes)

-- a codec of bodies with another writer of the same bytes
rewritten : {A : Type 0} {put put' : A → List ℕ} {get : Reader A} {Ok : A → Type 0} → ((a : A) → put a ≡ put' a) → Codec put get Ok → Codec put' get Ok
rewritten {get = get} e c = record {
  there = λ a rest v. ap (λ (l : List ℕ). get (l ++ rest)) (sym (e a)) ∙ c.there a rest v;
  back = λ bs a rest g. let q = c.back bs a rest g in (q.0 ∙ ap (λ (l : List ℕ). l ++ rest) (e a), q.1);
}

-- a block record is read back where the block obeys its rule, and only such a record is read
pub block_codec : Codec block_record (judged block_kind read_block) (λ b. block_ok b ≡ true)
unfolding body_length nth
block_codec = rewritten block_written (record_codec block_kind read_block block_body (λ b. block_ok b ≡ true) (record {
  sized = block_sized;
  bytes = block_bytes;
  fits = block_there;
  only = block_only;
}))

last_back : {X : Type 0} (fits : List Block → Bool) (before : List Block) (o : Option Block) (b : Block) → last_fits fits before o ≡ some b
    → (o ≡ some b → fits (before ++ (b ∷ [])) ≡ true → X) → X
unfolding last_fits
last_back fits before none b e k = let z : ◌≡◌ {A = ℕ} 0 1 = cc in absurd (omega arith)
last_back fits before (some x) b e k =
    obeying_back (fits (before ++ (x ∷ []))) x b e λ t q.
    k (ap some q) (subst (λ (y : Block). fits (before ++ (y ∷ [])) ≡ true) q t)

-- the last block of a partial: the partial's rule holds with it
pub last_codec : (fits : List Block → Bool) (before : List Block)
    → Codec block_record (judged block_kind (read_last_block fits before)) (λ b. (block_ok b ≡ true) × (fits (before ++ (b ∷ [])) ≡ true))
unfolding body_length nth read_last_block last_fits
last_codec fits before =
    rewritten block_written (record_codec block_kind (read_last_block fits before) block_body (λ b. (block_ok b ≡ true) × (fits (before ++ (b ∷ [])) ≡ true)) (record {
      sized = block_sized;
      bytes = block_bytes;
      fits = λ b v.
          ap (last_fits fits before) (block_there b v.0) ∙ obeying_there (fits (before ++ (b ∷ []))) b b v.1 refl;
      only = λ bs b h v o.
          last_back fits before (read_block bs) b o λ p t. let q = block_only bs b h v p in (q.0, (q.1, t));
    }))

-- ---- the first record of a partial: its piece and its flags, where n partials stand before it
pub partial_codec : (i n : ℕ) → i < 4294967296
    → Codec (λ f. partial_kind ∷ (bytes_of 4 i ++ bytes_of 1 f)) (judged partial_kind (read_partial i n)) (λ f. (f ≤ 7) × (ltb n max_partials ≡ true))
unfolding body_length nth read_partial
partial_codec i n lim =
    record_codec partial_kind (read_partial i n) (λ f. bytes_of 4 i ++ bytes_of 1 f) (λ f. (f ≤ 7) × (ltb n max_partials ≡ true)) (record {
      sized = λ f. simp (size_append, bytes_of_size);
      bytes = λ f. search (bytes_append, bytes_of_bytes);
      fits = λ f v.
          let a : field 0 4 (bytes_of 4 i ++ bytes_of 1 f) ≡ i = field_first 4 i _ (omega arith) in
          let b : field 4 1 (bytes_of 4 i ++ bytes_of 1 f) ≡ f = field_behind 4 0 1 i _ ∙ field_last 1 f (omega (arith, v.0)) in
          obeying_there _ (field 4 1 (bytes_of 4 i ++ bytes_of 1 f)) f
          (true_both (eqb (field 0 4 (bytes_of 4 i ++ bytes_of 1 f)) i) _ (eq-eqb (field 0 4 (bytes_of 4 i ++ bytes_of 1 f)) i a)
          (true_both (leb (field 4 1 (bytes_of 4 i ++ bytes_of 1 f)) 7) _ (le-leb (field 4 1 (bytes_of 4 i ++ bytes_of 1 f)) 7 (omega (arith, b, v.0))) v.1))
          b;
      only = λ b f h v o.
          obeying_back _ (field 4 1 b) f o λ t q.
          both (eqb (field 0 4 b) i) _ t λ t₁ t₂.
          both (leb (field 4 1 b) 7) _ t₂ λ t₃ t₄.
          (field_part 0 4 _ b _ (omega arith) v (eqb-true (field 0 4 b) i t₁) (field_end 4 1 _ b (omega arith) v q), (omega (arith, q, leb-true (field 4 1 b) 7 t₃), t₄));
    })

-- ---- a record of one number: an extent, a list place
pub number_codec : (kind : ℕ) (ok : ℕ → Bool) → body_length kind ≡ 4 → ((n : ℕ) → ok n ≡ true → n < 4294967296)
    → Codec (number_record kind) (judged kind (λ b. obeying (ok (field 0 4 b)) (field 0 4 b))) (λ n. ok n ≡ true)
unfolding number_record
number_codec kind ok four lim =
    record_codec kind (λ b. obeying (ok (field 0 4 b)) (field 0 4 b)) (bytes_of 4) (λ n. ok n ≡ true) (record {
      sized = λ n. bytes_of_size 4 n ∙ sym four;
      bytes = λ n. bytes_of_bytes 4 n;
      fits = λ n v.
          let e : field 0 4 (bytes_of 4 n) ≡ n = field_last 4 n (lim n v) in
          obeying_there (ok (field 0 4 (bytes_of 4 n))) (field 0 4 (bytes_of 4 n)) n (ap ok e ∙ v) e;
      only = λ b n h v o.
          obeying_back (ok (field 0 4 b)) (field 0 4 b) n o λ t q.
          (field_end 0 4 n b (omega (arith, h, four)) v q, ap ok (sym q) ∙ t);
    })

-- ---- the head
-- a list before its places are read: dirty, or still empty
abbrev pub unread : Listing → Listing
unread dirty = dirty
unread (fresh l) = fresh []

-- the picker of the head's fields alone
unfoldable pub bare : Picker → Picker
bare s =
    record {
      total_size = s.total_size;
      piece_size = s.piece_size;
      seeds = s.seeds;
      cursor = s.cursor;
      reverse_cursor = s.reverse_cursor;
      pieces = [];
      partials = [];
      recent_extents = [];
      listing = unread s.listing;
    }

unread_dirty : (l : Listing) → is_dirty (unread l) ≡ is_dirty l
unfolding is_dirty
unread_dirty dirty = refl
unread_dirty (fresh l) = refl

unread_twice : (l : Listing) → unread (unread l) ≡ unread l
unread_twice dirty = refl
unread_twice (fresh l) = refl

unread_read : (l : Listing) → cond (is_dirty l) dirty (fresh []) ≡ unread l
unfolding is_dirty
unread_read dirty = refl
unread_read (fresh l) = refl

dirty_read : (t : Bool) → is_dirty (cond t dirty (fresh [])) ≡ t
unfolding is_dirty
dirty_read true = refl
dirty_read false = refl

dirty-unread : (t : Bool) → unread (cond t dirty (fresh [])) ≡ cond t dirty (fresh [])
dirty-unread true = refl
dirty-unread false = refl

-- the head of a picker says no more than its bare picker
pub head_bare : (s : Picker) → head_record (bare s) ≡ head_record s
unfolding head_record bare
head_bare s = rw (unread_dirty s.listing)

-- a bare picker is its own
pub bare-bare : (s : Picker) → bare (bare s) ≡ bare s
unfolding bare
bare-bare s = rw (unread_twice s.listing)

-- and obeys the head's rule where the picker does
pub bare_ok : (s : Picker) → head_ok (bare s) ≡ head_ok s
unfolding head_ok bare
bare_ok s = refl

abbrev head_body : Picker → List ℕ
head_body s =
    bytes_of 8 s.total_size
    ++ (bytes_of 4 s.piece_size
    ++ (bytes_of 2 s.seeds ++ (bytes_of 4 s.cursor ++ (bytes_of 4 s.reverse_cursor ++ bytes_of 1 (bit (is_dirty s.listing))))))

-- what the head's rule says of its numbers
pub record HeadFits (s : Picker) : Type 0 where
  pub size_some : 1 ≤ s.piece_size
  pub size_most : s.piece_size ≤ max_piece_size
  pub pieces_most : num_pieces s.total_size s.piece_size ≤ max_pieces
  pub total_most : s.total_size ≤ max_pieces * s.piece_size
  pub seeds_most : s.seeds ≤ max_peers
  pub cursor_most : s.cursor ≤ num_pieces s.total_size s.piece_size
  pub reverse_most : s.reverse_cursor ≤ num_pieces s.total_size s.piece_size

-- a head that obeys its rule has such numbers
pub head_fits : (s : Picker) → head_ok s ≡ true → HeadFits s
unfolding head_ok valid_geometry
head_fits s v =
    both (valid_geometry s.total_size s.piece_size) _ v λ g v₁.
    both (leb s.seeds max_peers) _ v₁ λ a v₂.
    both (leb s.cursor (num_pieces s.total_size s.piece_size)) _ v₂ λ b c.
    both (leb 1 s.total_size) _ g λ g₁ w₁.
    both (leb 1 s.piece_size) _ w₁ λ g₂ w₂.
    both (leb s.piece_size max_piece_size) _ w₂ λ g₃ g₄.
    let some : 1 ≤ s.piece_size = leb-true 1 s.piece_size g₂ in
    let most : num_pieces s.total_size s.piece_size ≤ max_pieces = leb-true (num_pieces s.total_size s.piece_size) max_pieces g₄ in
    record {
      size_some = some;
      size_most = leb-true s.piece_size max_piece_size g₃;
      pieces_most = most;
      total_most = (num_pieces_le s.total_size s.piece_size max_pieces some).0 most;
      seeds_most = leb-true s.seeds max_peers a;
      cursor_most = leb-true s.cursor (num_pieces s.total_size s.piece_size) b;
      reverse_most = leb-true s.reverse_cursor (num_pieces s.total_size s.piece_size) c;
    }

record HeadFields (s : Picker) : Type 0 where
  total_is : field 0 8 (head_body s) ≡ s.total_size
  size_is : field 8 4 (head_body s) ≡ s.piece_size
  seeds_is : field 12 2 (head_body s) ≡ s.seeds
  cursor_is : field 14 4 (head_body s) ≡ s.cursor
  reverse_is : field 18 4 (head_body s) ≡ s.reverse_cursor
  dirty_is : field 22 1 (head_body s) ≡ bit (is_dirty s.listing)

head_fields : (s : Picker) → HeadFits s → HeadFields s
head_fields s f = record {
  total_is = field_first 8 s.total_size _ (omega arith);
  size_is = field_behind 8 0 4 s.total_size _ ∙ field_first 4 s.piece_size _ (omega arith);
  seeds_is = field_behind 8 4 2 s.total_size _ ∙ field_behind 4 0 2 s.piece_size _ ∙ field_first 2 s.seeds _ (omega arith);
  cursor_is =
      field_behind 8 6 4 s.total_size _
      ∙ field_behind 4 2 4 s.piece_size _
      ∙ field_behind 2 0 4 s.seeds _
      ∙ field_first 4 s.cursor _ (omega arith);
  reverse_is =
      field_behind 8 10 4 s.total_size _
      ∙ field_behind 4 6 4 s.piece_size _
      ∙ field_behind 2 4 4 s.seeds _
      ∙ field_behind 4 0 4 s.cursor _
      ∙ field_first 4 s.reverse_cursor _ (omega arith);
  dirty_is =
      field_behind 8 14 1 s.total_size _
      ∙ field_behind 4 10 1 s.piece_size _
      ∙ field_behind 2 8 1 s.seeds _
      ∙ field_behind 4 4 1 s.cursor _
      ∙ field_behind 4 0 1 s.reverse_cursor _
      ∙ field_last 1 (bit (is_dirty s.listing)) (omega (arith, bit_below (is_dirty s.listing)));
}

head_back : (s : Picker) → HeadFields s → head_of (head_body s) ≡ bare s
unfolding head_of bare
head_back s f =
    let a = f.total_is in
    let b = f.size_is in
    let c = f.seeds_is in
    let d = f.cursor_is in
    let e = f.reverse_is in
    let g = f.dirty_is in
    rw (a, b, c, d, e, g, bit_back (is_dirty s.listing), unread_read s.listing)

head_bare_of : (b : List ℕ) → bare (head_of b) ≡ head_of b
unfolding bare head_of
head_bare_of b = rw (dirty-unread (eqb (field 22 1 b) 1))

head_written : (b : List ℕ) → len b ≡ 23 → Bytes b → field 22 1 b ≤ 1 → b ≡ head_body (head_of b)
unfolding head_of
head_written b z v one =
    field_part 0 8 _ b _ (omega arith) v refl
    (field_part 8 4 _ b _ (omega arith) v refl
    (field_part 12 2 _ b _ (omega arith) v refl
    (field_part 14 4 _ b _ (omega arith) v refl
    (field_part 18 4 _ b _ (omega arith) v refl
    (field_end 22 1 _ b (omega arith) v (sym (ap bit (dirty_read (eqb (field 22 1 b) 1)) ∙ bit_forth (field 22 1 b) one)))))))

-- a head record is read back as a bare picker that obeys the head's rule, and only such a record is read
pub head_codec : Codec head_record (judged head_kind read_head) (λ h. (head_ok h ≡ true) × (bare h ≡ h))
unfolding head_record read_head body_length nth
head_codec = record_codec head_kind read_head head_body (λ h. (head_ok h ≡ true) × (bare h ≡ h)) (record {
  sized = λ h. simp (size_append, bytes_of_size);
  bytes = λ h. search (bytes_append, bytes_of_bytes) depth 8;
  fits = λ h v.
      let f = head_fields h (head_fits h v.0) in
      let e : head_of (head_body h) ≡ h = head_back h f ∙ v.1 in
      let g = f.dirty_is in
      obeying_there _ (head_of (head_body h)) h
      (true_both (leb (field 22 1 (head_body h)) 1) _ (le-leb (field 22 1 (head_body h)) 1 (omega (arith, g, bit_below (is_dirty h.listing))))
      (ap head_ok e ∙ v.0))
      e;
  only = λ b h z v o.
      obeying_back _ (head_of b) h o λ t q.
      both (leb (field 22 1 b) 1) _ t λ t₁ t₂.
      subst (λ (x : Picker). (b ≡ head_body x) × ((head_ok x ≡ true) × (bare x ≡ x))) q (head_written b z v (leb-true (field 22 1 b) 1 t₁), (t₂, head_bare_of b));
})
