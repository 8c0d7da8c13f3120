-- Pickers that answer every question alike are equal: each field of the image has its question.
use mathlib.Core.Path.{◌≡◌, refl, sym, ap, ◌∙◌}
use Prim.Native.Nat.{ℕ, zero, suc, ◌+◌, ◌≤◌, ◌<◌}
use native.Mathlib.Omega.{arith}
use native.Mathlib.Decide.{dec_le}
use mathlib.Core.Bool.{Bool, true, false, cond}
use mathlib.Core.List.{List, [], ◌∷◌}
use mathlib.Core.Option.{Option, none, some}
use lib.ListN.{length, get_elem?}
use lib.Seq.{ext_get_or}
use lib.Dec.{leb}
use borrow.Author.Tests.{lt-leb, leb-true}
use Rattle.types.specs.declared.refusal.Refusal.{Refusal}
use Rattle.types.specs.declared.refusal.Refusal.TheVariants.{OutOfRange}
use Rattle.model.specs.Lists.{bit, len, each, nth}
use Rattle.model.specs.State.{Piece, DownloadingPiece, Picker, Listing, dirty, fresh, no_piece, no_block, same_queue, is_open, is_dirty}
use Rattle.model.specs.State.{piece_at, pieces_in, blocks_in_piece}
use Rattle.model.specs.change.Partials.{partial_of, block_at}
use Rattle.model.specs.ask.Questions.{Question, of_picker, of_piece, of_block, recent_extent, ask_list_place, total_size, full_piece_size}
use Rattle.model.specs.ask.Questions.{num_seeds, cursor?, reverse_cursor?, dirty?, num_pieces, peer_count, download_state}
use Rattle.model.specs.ask.Questions.{piece_priority, is_piece_flushed, pad_bytes_in_piece, passed_hash_check, locked?, hashing?}
use Rattle.model.specs.ask.Questions.{block_state, block_num_peers, block_peer, OfPiece, OfBlock, numbers, nothing, plain, one, flag}
use Rattle.model.specs.ask.Questions.{reply, reply_picker, reply_piece, reply_block, of_partial, of_block_there, block_in, place_in}
use Rattle.model.specs.ask.Questions.{list_place}
use Rattle.model.specs.Calls.{refuse_bad_piece as piece_refusal, refuse_bad_block as block_refusal, Call, question, Answer, refused}
use Rattle.model.specs.Calls.{replied, step, answers, act, answering, unless_refused, check, refusal, question_refusal, no_place}
use Rattle.model.specs.Memory.{Memory, memory_needed, is_short}
use Rattle.model.specs.image.Sound.{Sound, PartialSound}
use Rattle.types.proofs.QueueNumbers.{queue_numbers}
use Rattle.types.proofs.BlockNumbers.{block_state_numbers}
use Rattle.model.proofs.base.MemoryLaws.{enough_long}
use Rattle.model.proofs.sound.PieceLaws.{piece_at_beyond}
use Rattle.model.proofs.sound.PartialLaws.{partials_same}

-- ---- what a telling tells
one_eq : {a b : ℕ} → one a ≡ one b → a ≡ b
unfolding one plain each
one_eq e = cc

peer_eq : {a b : Option ℕ} → numbers (a ∷ []) ≡ numbers (b ∷ []) → a ≡ b
peer_eq e = cc

bit_eq : (a b : Bool) → bit a ≡ bit b → a ≡ b
bit_eq true true e = refl
bit_eq true false e = absurd (omega arith)
bit_eq false true e = absurd (omega arith)
bit_eq false false e = refl

flag_eq : (a b : Bool) → flag a ≡ flag b → a ≡ b
unfolding flag
flag_eq a b e = bit_eq a b (one_eq e)

no_telling : (n : ℕ) → nothing ≡ one n → ⊥
unfolding one plain
no_telling n e = let z : ◌≡◌ {A = ℕ} 0 1 = cc in omega arith

place_eq : (a b : Option ℕ) → place_in a ≡ place_in b → a ≡ b
unfolding place_in
place_eq none none e = refl
place_eq none (some y) e = absurd (no_telling y e)
place_eq (some x) none e = absurd (no_telling x (sym e))
place_eq (some x) (some y) e = ap some (one_eq e)

-- lists that agree at each place
elements_eq : {A : Type 0} (l m : List A) → ((k : ℕ) → get_elem? l k ≡ get_elem? m k) → l ≡ m
elements_eq [] [] h = refl
elements_eq [] (y ∷ ys) h = let e = h 0 in let z : ◌≡◌ {A = ℕ} 0 1 = cc in absurd (omega arith)
elements_eq (x ∷ xs) [] h = let e = h 0 in let z : ◌≡◌ {A = ℕ} 0 1 = cc in absurd (omega arith)
elements_eq (x ∷ xs) (y ∷ ys) h =
    let e = h 0 in
    let p : x ≡ y = cc in
    λ i. p i ∷ elements_eq xs ys (λ k. h (suc k)) i

-- past the end there is nothing
elements_end : {A : Type 0} (l : List A) (k : ℕ) → length l ≤ k → get_elem? l k ≡ none
elements_end [] k h = refl
elements_end (x ∷ xs) zero h = absurd (omega arith)
elements_end (x ∷ xs) (suc k) h = elements_end xs k (omega arith)

-- ---- one question to each
-- what a question is answered where the memory suffices
abbrev answered : Picker → Question → Answer
answered u q = (unless_refused (question_refusal u q) u (question q)).answer

with_memory : (u : Picker) (q : Question) (m : Memory) → is_short m (memory_needed u) ≡ false
    → (step u (record { lent = m; action = question q })).answer ≡ answered u q
unfolding step refusal check
with_memory u q m h = rw h

-- memory enough for one and the other
memories : (m n : Memory) → Memory
memories m n = record { words = m.words + n.words; cells = m.cells + n.cells; partials = m.partials + n.partials }

one_fits : (m n : Memory) → is_short (memories m n) m ≡ false
unfolding memories
one_fits m n = enough_long (memories m n) m (record { words = omega arith; cells = omega arith; partials = omega arith })

other_fits : (m n : Memory) → is_short (memories m n) n ≡ false
unfolding memories
other_fits m n = enough_long (memories m n) n (record { words = omega arith; cells = omega arith; partials = omega arith })

unrefused : (u : Picker) (q : Question) → question_refusal u q ≡ none → answered u q ≡ replied (reply u q)
unfolding unless_refused act answering
unrefused u q h = ap (λ (o : Option Refusal). (unless_refused o u (question q)).answer) h

piece_fits : (u : Picker) (i : ℕ) → i < pieces_in u → piece_refusal u i none ≡ none
unfolding piece_refusal check
piece_fits u i h = rw (lt-leb (pieces_in u) i h)

block_fits : (u : Picker) (i j : ℕ) → i < pieces_in u → j < blocks_in_piece u i → block_refusal u i j none ≡ none
unfolding block_refusal piece_refusal check
block_fits u i j h k = rw (lt-leb (pieces_in u) i h, lt-leb (blocks_in_piece u i) j k)

-- a place of a list that is not dirty
abbrev place_answer : List ℕ → ℕ → Answer
place_answer l k = cond (leb (length l) k) (refused OutOfRange) (replied (place_in (get_elem? l k)))

place_answered : (u : Picker) (l : List ℕ) (k : ℕ) → u.listing ≡ fresh l → answered u (ask_list_place k) ≡ place_answer l k
unfolding question_refusal no_place len unless_refused list_place check act answering reply
place_answered u l k e = sym (ap shown (sym e)) ∙ judged (leb (length l) k)
  where
    shown : Listing → Answer
    shown x = (unless_refused (check (no_place x k) OutOfRange none) u (question (ask_list_place k))).answer

    judged : (b : Bool) → (unless_refused (check b OutOfRange none) u (question (ask_list_place k))).answer ≡ cond b (refused OutOfRange) (replied (place_in (get_elem? l k)))
    judged true = refl
    judged false = ap replied (ap (λ (x : Listing). list_place x k) e)

place_told : (l m : List ℕ) (k : ℕ) → place_answer l k ≡ place_answer m k → get_elem? l k ≡ get_elem? m k
place_told l m k e = go (leb (length l) k) (leb (length m) k) refl refl e
  where
    go : (b c : Bool) → leb (length l) k ≡ b → leb (length m) k ≡ c
        → cond b (refused OutOfRange) (replied (place_in (get_elem? l k))) ≡ cond c (refused OutOfRange) (replied (place_in (get_elem? m k)))
        → get_elem? l k ≡ get_elem? m k
    go true true p q r = elements_end l k (leb-true _ _ p) ∙ sym (elements_end m k (leb-true _ _ q))
    go true false p q r = let z : ◌≡◌ {A = ℕ} 0 1 = cc in absurd (omega arith)
    go false true p q r = let z : ◌≡◌ {A = ℕ} 0 1 = cc in absurd (omega arith)
    go false false p q r = let f : place_in (get_elem? l k) ≡ place_in (get_elem? m k) = cc in place_eq _ _ f

-- ---- every question to both, in memory that is enough for both
module _ (s t : Picker) (lent : Memory) (fits : is_short lent (memory_needed s) ≡ false) (fits' : is_short lent (memory_needed t) ≡ false)
    (same : (q : Question) → (step s (record { lent = lent; action = question q })).answer
    ≡ (step t (record { lent = lent; action = question q })).answer) where
  asked : (q : Question) → answered s q ≡ answered t q
  asked q = sym (with_memory s q lent fits) ∙ same q ∙ with_memory t q lent fits'

  asks : (q : Question) → question_refusal s q ≡ none → question_refusal t q ≡ none → reply s q ≡ reply t q
  asks q h k =
      let e : replied (reply s q) ≡ replied (reply t q) = sym (unrefused s q h) ∙ asked q ∙ unrefused t q k in
      cc

  -- ---- the head
  total_same : s.total_size ≡ t.total_size
  unfolding question_refusal reply reply_picker
  total_same = one_eq (asks (of_picker total_size) refl refl)

  size' : s.piece_size ≡ t.piece_size
  unfolding question_refusal reply reply_picker
  size' = one_eq (asks (of_picker full_piece_size) refl refl)

  seeds : s.seeds ≡ t.seeds
  unfolding question_refusal reply reply_picker
  seeds = one_eq (asks (of_picker num_seeds) refl refl)

  cursor : s.cursor ≡ t.cursor
  unfolding question_refusal reply reply_picker
  cursor = one_eq (asks (of_picker cursor?) refl refl)

  reverse_cursor : s.reverse_cursor ≡ t.reverse_cursor
  unfolding question_refusal reply reply_picker
  reverse_cursor = one_eq (asks (of_picker reverse_cursor?) refl refl)

  staleness : is_dirty s.listing ≡ is_dirty t.listing
  unfolding question_refusal reply reply_picker
  staleness = flag_eq _ _ (asks (of_picker dirty?) refl refl)

  many : pieces_in s ≡ pieces_in t
  unfolding question_refusal reply reply_picker
  many = one_eq (asks (of_picker num_pieces) refl refl)

  -- ---- pieces
  piece_asks : (q : OfPiece) (i : ℕ) → i < pieces_in s → reply_piece s i q ≡ reply_piece t i q
  unfolding question_refusal reply
  piece_asks q i h = asks (of_piece q i) (piece_fits s i h) (piece_fits t i (omega (arith, many)))

  piece_same : (i : ℕ) → i < pieces_in s → piece_at s i ≡ piece_at t i
  unfolding reply_piece
  piece_same i h =
      let c = one_eq (piece_asks peer_count i h) in
      let q = queue_numbers.distinct _ _ (one_eq (piece_asks download_state i h)) in
      let w = one_eq (piece_asks piece_priority i h) in
      let f = flag_eq _ _ (piece_asks is_piece_flushed i h) in
      let p = one_eq (piece_asks pad_bytes_in_piece i h) in
      λ k. record { peer_count = c k; state = q k; priority = w k; flushed = f k; pad_bytes = p k }

  pieces : s.pieces ≡ t.pieces
  unfolding piece_at pieces_in nth len
  pieces = ext_get_or no_piece s.pieces t.pieces many piece_same

  -- ---- partials
  blocks_many : (i : ℕ) → blocks_in_piece s i ≡ blocks_in_piece t i
  unfolding blocks_in_piece
  blocks_many i = rw (total_same, size')

  block_asks : (q : OfBlock) (i j : ℕ) → i < pieces_in s → j < blocks_in_piece s i
      → reply_block s i (block_in (partial_of s i) j) q ≡ reply_block t i (block_in (partial_of t i) j) q
  unfolding question_refusal reply
  block_asks q i j h k =
      asks (of_block q i j) (block_fits s i j h k) (block_fits t i j (omega (arith, many)) (omega (arith, blocks_many i)))

  -- the partials of piece i, where both have one
  module _ (i : ℕ) (h : i < pieces_in s) (d e : DownloadingPiece) (x : partial_of s i ≡ some d) (y : partial_of t i ≡ some e) where
    block_told : (q : OfBlock) (j : ℕ) → j < blocks_in_piece s i → reply_block s i (some (block_at d j)) q ≡ reply_block t i (some (block_at e j)) q
    unfolding block_in
    block_told q j k =
        sym (ap (λ (o : Option DownloadingPiece). reply_block s i (block_in o j) q) x)
        ∙ block_asks q i j h k
        ∙ ap (λ (o : Option DownloadingPiece). reply_block t i (block_in o j) q) y

    block_same : (j : ℕ) → j < blocks_in_piece s i → block_at d j ≡ block_at e j
    unfolding reply_block of_block_there
    block_same j k =
        let a : (block_at d j).state ≡ (block_at e j).state = block_state_numbers.distinct _ _ (one_eq (block_told block_state j k)) in
        let b = one_eq (block_told block_num_peers j k) in
        let c = peer_eq (block_told block_peer j k) in
        λ n. record { state = a n; num_peers = b n; peer = c n }

    flag_told : (f : DownloadingPiece → Bool) → of_partial (λ p. flag (f p)) (partial_of s i) ≡ of_partial (λ p. flag (f p)) (partial_of t i) → f d ≡ f e
    unfolding of_partial
    flag_told f r =
        flag_eq (f d) (f e)
        (sym (ap (of_partial (λ p. flag (f p))) x) ∙ r ∙ ap (of_partial (λ p. flag (f p))) y)

    partial_same : PartialSound s i d → PartialSound t i e → d ≡ e
    unfolding reply_piece block_at nth len
    partial_same u v =
        let p = u.piece ∙ sym v.piece in
        let a = flag_told (λ z. z.passed_hash_check) (piece_asks passed_hash_check i h) in
        let b = flag_told (λ z. z.locked) (piece_asks locked? i h) in
        let c = flag_told (λ z. z.hashing) (piece_asks hashing? i h) in
        let g = ext_get_or no_block d.blocks e.blocks (u.blocks ∙ blocks_many i ∙ sym v.blocks) (λ j k. block_same j (omega (arith, u.blocks))) in
        λ n. record { piece = p n; passed_hash_check = a n; locked = b n; hashing = c n; blocks = g n }

  -- ---- extents and list
  extents : s.recent_extents ≡ t.recent_extents
  unfolding question_refusal reply
  extents = elements_eq s.recent_extents t.recent_extents (λ k. place_eq _ _ (asks (recent_extent k) refl refl))

  listing_when : (l m : Listing) → s.listing ≡ l → t.listing ≡ m → l ≡ m
  unfolding is_dirty
  listing_when dirty dirty p q = refl
  listing_when dirty (fresh m) p q =
      let e : is_dirty dirty ≡ is_dirty (fresh m) = sym (ap is_dirty p) ∙ staleness ∙ ap is_dirty q in
      let z : ◌≡◌ {A = ℕ} 0 1 = cc in
      absurd (omega arith)
  listing_when (fresh l) dirty p q =
      let e : is_dirty (fresh l) ≡ is_dirty dirty = sym (ap is_dirty p) ∙ staleness ∙ ap is_dirty q in
      let z : ◌≡◌ {A = ℕ} 0 1 = cc in
      absurd (omega arith)
  listing_when (fresh l) (fresh m) p q =
      ap fresh
      (elements_eq l m (λ k. place_told l m k (sym (place_answered s l k p) ∙ asked (ask_list_place k) ∙ place_answered t m k q)))

  listing : s.listing ≡ t.listing
  listing = listing_when s.listing t.listing refl refl

  -- ---- all of it
  module _ (v : Sound s) (w : Sound t) where
    none_beyond : (u : Picker) → Sound u → (i : ℕ) → pieces_in u ≤ i → partial_of u i ≡ none
    unfolding no_piece is_open same_queue
    none_beyond u x i h = x.vacant i (ap (λ (p : Piece). is_open p.state) (piece_at_beyond u i h))

    partial_when : (i : ℕ) → i < pieces_in s → (o p : Option DownloadingPiece) → partial_of s i ≡ o → partial_of t i ≡ p → o ≡ p
    unfolding reply_piece of_partial flag
    partial_when i h none none x y = refl
    partial_when i h none (some e) x y =
        absurd
        (no_telling (bit e.passed_hash_check)
        (sym (ap (of_partial (λ p. flag p.passed_hash_check)) x) ∙ piece_asks passed_hash_check i h ∙ ap (of_partial (λ p. flag p.passed_hash_check)) y))
    partial_when i h (some d) none x y =
        absurd
        (no_telling (bit d.passed_hash_check)
        (sym (sym (ap (of_partial (λ p. flag p.passed_hash_check)) x) ∙ piece_asks passed_hash_check i h ∙ ap (of_partial (λ p. flag p.passed_hash_check)) y)))
    partial_when i h (some d) (some e) x y = ap some (partial_same i h d e x y (v.partial i d x) (w.partial i e y))

    partial_each : (i : ℕ) → partial_of s i ≡ partial_of t i
    partial_each i = elim (dec_le (suc i) (pieces_in s)) [
      | yes h ↦ partial_when i h (partial_of s i) (partial_of t i) refl refl
      | no h ↦ none_beyond s v i (omega (arith, h)) ∙ sym (none_beyond t w i (omega (arith, h, many)))
    ]

    partials : s.partials ≡ t.partials
    unfolding partial_of
    partials = partials_same 0 0 s.partials t.partials v.rising w.rising partial_each

    -- the same picker
    pub questions_same : s ≡ t
    questions_same = λ i.
        record {
          total_size = total_same i;
          piece_size = size' i;
          seeds = seeds i;
          cursor = cursor i;
          reverse_cursor = reverse_cursor i;
          pieces = pieces i;
          partials = partials i;
          recent_extents = extents i;
          listing = listing i;
        }

-- ---- every list of calls to both
pub pickers_same : (s t : Picker) → ((cs : List Call) → answers s cs ≡ answers t cs) → Sound s → Sound t → s ≡ t
unfolding answers
pickers_same s t same v w =
    let m = memories (memory_needed s) (memory_needed t) in
    questions_same s t m (one_fits (memory_needed s) (memory_needed t)) (other_fits (memory_needed s) (memory_needed t)) (λ q.
    let c : Call = record { lent = m; action = question q } in
    let e = same (c ∷ []) in
    cc) v w
