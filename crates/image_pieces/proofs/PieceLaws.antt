-- A piece of an image by its numbers: its rule, and what its reader answers. Assumes nothing.
use Rattle.std.specs.Prelude.{None, Some}
use mathlib.Core.Path.{◌≡◌, refl, sym, ap, ◌∙◌}
use mathlib.Core.Bool.{Bool, true, false, not, ◌&&◌, ◌||◌}
use mathlib.Core.List.{List}
use Prim.Native.Nat.{ℕ, ◌+◌, ◌≤◌}
use native.Mathlib.Omega.{arith}
use lib.Dec.{eqb, leb}
use lib.ListN.{length, drop}
use borrow.Author.Tests.{leb-true}
use Rattle.types.specs.declared.queue.DownloadQueue.TheVariants.{Open}
use Rattle.types.specs.Queue.{queue_number, queues}
use Rattle.model.specs.Lists.{nth}
use Rattle.model.specs.State.{Piece as PieceRecord, Picker, max_peers, max_priority, same_queue, is_open, piece_size_at}
use Rattle.model.specs.image.WellFormed.{piece_ok}
use Rattle.model.specs.image.Image.{body_length, piece_kind, Got, got, fault, starts_with, judged, field, obeying, last_queue, piece_of}
use Rattle.model.specs.image.Image.{read_piece}
use Rattle.model.proofs.image.Codec.{obeying_back}
use Rattle.model.proofs.base.Truths.{both_true, by_test}
use Rattle.memory_layout.specs.Decode.{queue_from}
use Rattle.memory_layout.proofs.Numbers.{queue_number_lem}
use Rattle.list_rank.specs.Ranks.{Numbers}
use Rattle.image_records.specs.Records.{body_at, Body}
use Rattle.image_records.proofs.FrontLaws.{judged_none, judged_found, judged-fault, judged_cases}
use Rattle.image_records.proofs.RecordLaws.{obeys, breaks}
use Rattle.image_pieces.specs.declared.piece.Piece.{Piece}
use Rattle.image_pieces.specs.Pieces.{piece_test, piece_numbers, piece_step}

-- ---- the tests in another order
pub piece_test_lem : (count state priority flushed pad seeds long : ℕ)
    → (leb state last_queue && leb flushed 1 && leb (count + seeds) max_peers && leb priority max_priority &&
    (not (eqb flushed 1) || eqb state 4) && leb pad long)
    ≡ piece_test count state priority flushed pad seeds long
unfolding piece_test
piece_test_lem count state priority flushed pad seeds long =
    go (leb state last_queue) (leb flushed 1) (leb (count + seeds) max_peers) (leb priority max_priority)
    (not (eqb flushed 1) || eqb state 4) (leb pad long)
  where
    go : (a b c d e f : Bool) → (a && b && c && d && e && f) ≡ (a && (b && (c && (d && (e && f)))))
    go true true true true true f = refl
    go true true true true false f = refl
    go true true true false e f = refl
    go true true false d e f = refl
    go true false c d e f = refl
    go false b c d e f = refl

-- ---- what its reader answers
-- a state's number that is one says whether the state is Open
pub open_number : (w : ℕ) → w ≤ last_queue → is_open (nth Open queues w) ≡ eqb w 4
unfolding is_open same_queue queue_from
open_number w h = ap (λ (x : ℕ). eqb x 4) (queue_number_lem w (omega arith))

module _ (s : Picker) (i at : ℕ) (bytes : List ℕ) where
  pub piece_none : starts_with piece_kind (drop at bytes) ≡ false → None ≡ piece_step (judged piece_kind (read_piece s i) (drop at bytes))
  unfolding piece_step
  piece_none e = sym (ap piece_step (judged_none piece_kind (read_piece s i) (drop at bytes) e))

  module _ (e : starts_with piece_kind (drop at bytes) ≡ true) (body : List ℕ) (b : Body piece_kind at bytes body)
      (count state priority flushed pad : ℕ) (ec : count ≡ field 0 2 body) (es : state ≡ field 2 1 body) (ep : priority ≡ field 3 1 body)
      (ef : flushed ≡ field 4 1 body) (ed : pad ≡ field 5 4 body) (seeds long : ℕ) (en : s.seeds ≡ seeds) (el : piece_size_at s i ≡ long)
    where
      test_same : (leb state last_queue && (leb flushed 1 && piece_ok s i (piece_of body))) ≡ piece_test count state priority flushed pad seeds
          long
      unfolding piece_test piece_ok piece_of is_open piece_size_at
      test_same =
          by_test (leb state last_queue)
          (λ t. rw (← ec, ← es, ← ep, ← ef, ← ed, en, el, t, open_number state (leb-true state last_queue t)))
          (λ t. rw t)

      piece_read : read_piece s i body ≡ obeying (piece_test count state priority flushed pad seeds long) (piece_of body)
      unfolding read_piece
      piece_read =
          rw (← es, ← ef) (ap (λ (t : Bool). obeying t (piece_of body)) test_same)

      pub piece_fault : piece_test count state priority flushed pad seeds long ≡ false
          → None ≡ piece_step (judged piece_kind (read_piece s i) (drop at bytes))
      unfolding piece_step
      piece_fault t =
          sym (ap piece_step (judged-fault piece_kind (read_piece s i) at bytes e body b (piece_read ∙ breaks _ (piece_of body) t)))

      piece_numbers_lem : piece_test count state priority flushed pad seeds long ≡ true
          → piece_numbers (piece_of body) ≡ record {
            peer_count = count;
            state = state;
            priority = priority;
            flushed = eqb flushed 1;
            pad_bytes = pad;
          }
      unfolding piece_test piece_numbers piece_of queue_from
      piece_numbers_lem t =
          let f = both_true (leb state last_queue) _ t in
          let q : queue_number (queue_from state) ≡ state = queue_number_lem state (omega (arith, leb-true state last_queue f.0)) in
          rw (← ec, ← es, ← ep, ← ef, ← ed, q)

      pub piece_found : piece_test count state priority flushed pad seeds long ≡ true
          → Some (record { peer_count = count; state = state; priority = priority; flushed = eqb flushed 1; pad_bytes = pad })
          ≡ piece_step (judged piece_kind (read_piece s i) (drop at bytes))
      unfolding piece_step
      piece_found t =
          sym
          (ap piece_step (judged_found piece_kind (read_piece s i) at bytes e body b (piece_of body) (piece_read ∙ obeys _ (piece_of body) t))
          ∙ ap Some (piece_numbers_lem t))

-- ---- for a caller
-- read, a piece stands there, and the rest starts ten bytes on
pub record PieceGot (s : Picker) (i at : ℕ) (bytes : List ℕ) (x : Piece) : Type 0 where
  pub is : judged piece_kind (read_piece s i) (drop at bytes) ≡ got (piece_of (body_at piece_kind at bytes)) (drop (at + 10) bytes)
  pub room : at + 10 ≤ length bytes
  pub numbers : piece_numbers (piece_of (body_at piece_kind at bytes)) ≡ x
  pub state : field 2 1 (body_at piece_kind at bytes) ≤ last_queue
  pub count_most : x.peer_count ≤ max_peers
  pub priority_most : x.priority ≤ max_priority

found_numbers : (p : PieceRecord) (rest : List ℕ) (g : Got PieceRecord) (x : Piece) → g ≡ got p rest → Some x ≡ piece_step g →
    piece_numbers p ≡ x
unfolding piece_step
found_numbers p rest g x e f = let z : Some x ≡ Some (piece_numbers p) = f ∙ ap piece_step e in cc

never_found : {X : Type 0} (g : Got PieceRecord) (rest : List ℕ) (x : Piece) → g ≡ fault rest → Some x ≡ piece_step g → X
unfolding piece_step
never_found g rest x e f =
    let z : Some x ≡ None = f ∙ ap piece_step e in
    let y : ◌≡◌ {A = ℕ} 0 1 = cc in
    absurd (omega arith)

module _ (s : Picker) (i at : ℕ) (bytes : List ℕ) where
  ranges : (p : PieceRecord) (x : Piece) → piece_numbers p ≡ x → piece_ok s i p ≡ true → (x.peer_count ≤ max_peers) ×
      (x.priority ≤ max_priority)
  unfolding piece_ok piece_numbers
  ranges p x e h =
      let t = both_true (leb (p.peer_count + s.seeds) max_peers) _ h in
      let u = both_true (leb p.priority max_priority) _ t.1 in
      let a : p.peer_count ≡ x.peer_count = ap (λ (y : Piece). y.peer_count) e in
      let b : p.priority ≡ x.priority = ap (λ (y : Piece). y.priority) e in
      (omega (arith, leb-true (p.peer_count + s.seeds) max_peers t.0), omega (arith, leb-true p.priority max_priority u.0))

  pub piece_got : (x : Piece) → Some x ≡ piece_step (judged piece_kind (read_piece s i) (drop at bytes)) → PieceGot s i at bytes x
  unfolding read_piece body_length nth
  piece_got x f =
      judged_cases piece_kind (read_piece s i) at bytes (λ e. never_found (judged piece_kind (read_piece s i) (drop at bytes))
      (drop at bytes) x e f)
      (λ p room r e.
      let body = body_at piece_kind at bytes in
      obeying_back _ (piece_of body) p r λ t q.
      let n : piece_numbers p ≡ x = found_numbers p _ (judged piece_kind (read_piece s i) (drop at bytes)) x e f in
      let u = both_true (leb (field 2 1 body) last_queue) _ t in
      let v = both_true (leb (field 4 1 body) 1) (piece_ok s i (piece_of body)) u.1 in
      let m = ranges (piece_of body) x (ap piece_numbers q ∙ n) v.1 in
      record {
        is = e ∙ ap (λ (y : PieceRecord). got y (drop (at + 10) bytes)) (sym q);
        room = room;
        numbers = ap piece_numbers q ∙ n;
        state = leb-true (field 2 1 body) last_queue u.0;
        count_most = m.0;
        priority_most = m.1;
      })

  pub piece_bad : None ≡ piece_step (judged piece_kind (read_piece s i) (drop at bytes)) → judged piece_kind (read_piece s i) (drop at bytes)
      ≡ fault (drop at bytes)
  unfolding piece_step
  piece_bad f =
      judged_cases piece_kind (read_piece s i) at bytes (λ e. e)
      (λ p room r e.
      let z : None ≡ Some (piece_numbers p) = f ∙ ap piece_step e in
      let y : ◌≡◌ {A = ℕ} 0 1 = cc in
      absurd (omega arith))

-- the numbers of a rank
pub rank_numbers : (p : PieceRecord) (x : Piece) → piece_numbers p ≡ x → Numbers x.peer_count x.state x.priority x.flushed p
unfolding piece_numbers
rank_numbers p x e = record {
  peer_count_is = ap (λ (y : Piece). y.peer_count) e;
  state_is = ap (λ (y : Piece). y.state) e;
  priority_is = ap (λ (y : Piece). y.priority) e;
  flushed_is = ap (λ (y : Piece). y.flushed) e;
}
