-- The walk over the pieces, each with its partial if it is not Open. Assumes nothing.
use Rattle.std.specs.Prelude.{Err, Ok, Result}
use mathlib.Core.Path.{◌≡◌, refl, sym, ap, ◌∙◌, subst}
use mathlib.Core.Bool.{true, false}
use mathlib.Core.List.{List, [], ◌∷◌, ◌++◌, append_assoc, append-nil}
use Prim.Native.Nat.{ℕ, suc, ◌+◌, ◌≤◌, ◌<◌}
use native.Mathlib.Omega.{arith}
use lib.Dec.{eqb}
use lib.ListN.{length, take, drop}
use lib.Seq.{drop-drop}
use borrow.Author.Tests.{eq-eqb, ne_eqb}
use Rattle.model.specs.Lists.{nth}
use Rattle.model.specs.Bep3.{num_pieces, piece_blocks}
use Rattle.model.specs.State.{Piece, DownloadingPiece, same_queue, is_open, blocks_in_piece}
use Rattle.model.specs.image.Image.{body_length, Got, got, fault, ret, next, field, last_queue, piece_of, get_partial, get_partials}
use Rattle.model.proofs.base.Bep3Laws.{blocks_in_piece_pos, blocks_in_piece_le}
use Rattle.model.proofs.image.Parts.{open_read, shut_read}
use Rattle.geometry.proofs.ValidLaws.{bounds}
use Rattle.memory_layout.specs.Tables.{tabulate}
use Rattle.memory_layout.specs.Decode.{queue_from}
use Rattle.memory_layout.proofs.Numbers.{queue_number_lem}
use Rattle.check_pieces.proofs.Tails.{tail, tail_all, tail_next, tail_end}
use Rattle.image_bytes.specs.Put.{FieldRead}
use Rattle.image_bytes.proofs.FieldLaws.{field_inside}
use Rattle.image_records.specs.Records.{body_at}
use Rattle.image_pieces.specs.declared.head.Head.{Head}
use Rattle.image_pieces.specs.Places.{Went}
use Rattle.image_pieces.specs.Heads.{head_picker, Headed}
use Rattle.image_pieces.specs.Pieces.{piece_place, piece_body, piece_in, first_pieces}
use Rattle.image_pieces.proofs.NextLaws.{next-got, next-fault, next_start}
use Rattle.image_pieces.proofs.HeadLaws.{head_valid}
use Rattle.image_partials.specs.declared.partials.Walk.{Walk}
use Rattle.image_partials.specs.Partials.{partials_from, Passed, StepFails, PartialJudged}

-- ---- a piece's fields, read again
-- field k of piece i
pub piece_field : (bytes : List ℕ) (i k w at r : ℕ) → k + w ≤ 9 → at ≡ piece_place i + 1 + k → FieldRead at w bytes r
    → r ≡ field k w (piece_body bytes i)
unfolding piece_body body_at body_length nth
piece_field bytes i k w at r h e f =
    f.is ∙ ap (λ (x : ℕ). field x w bytes) e ∙ sym (field_inside (piece_place i + 1) 9 k w bytes h) ∙ ap
    (λ (l : List ℕ). field k w (take 9 l)) (sym (drop-drop 1 (piece_place i) bytes))

module _ (bytes : List ℕ) (i state : ℕ) (es : state ≡ field 2 1 (piece_body bytes i)) where
  pub piece_state : (piece_in bytes i).state ≡ queue_from state
  unfolding piece_in piece_of queue_from
  piece_state = ap queue_from (sym es)

  module _ (h : field 2 1 (piece_body bytes i) ≤ last_queue) where
    open_is : is_open (piece_in bytes i).state ≡ eqb state 4
    unfolding is_open same_queue
    open_is = rw piece_state (ap (λ (x : ℕ). eqb x 4) (queue_number_lem state (omega (arith, es))))

    pub piece_open : state ≡ 4 → is_open (piece_in bytes i).state ≡ true
    piece_open e = open_is ∙ eq-eqb state 4 e

    pub piece_shut : (state ≡ 4 → ⊥) → is_open (piece_in bytes i).state ≡ false
    piece_shut n = open_is ∙ ne_eqb state 4 n

pub piece_priority : (bytes : List ℕ) (i priority : ℕ) → priority ≡ field 3 1 (piece_body bytes i) → (piece_in bytes i).priority ≡ priority
unfolding piece_in piece_of
piece_priority bytes i priority e = sym e

-- the blocks of a piece
module _ (head : Head) (bytes : List ℕ) (h : Headed head bytes) (i : ℕ) (l : i < num_pieces head.total head.size) where
  pub blocks_some : 1 ≤ piece_blocks head.total head.size i
  blocks_some = blocks_in_piece_pos head.total head.size i (bounds head.total head.size (head_valid head h.ok)).some_size l

  pub blocks_most : piece_blocks head.total head.size i ≤ 256
  blocks_most =
      let b = bounds head.total head.size (head_valid head h.ok) in
      omega (arith, b.blocks_most, blocks_in_piece_le head.total head.size i b.some_size)

-- ---- one piece
module _ (head : Head) (i : ℕ) (w : Walk) (bytes : List ℕ) (few : w.many ≤ i) where
  pub pass_open : is_open (piece_in bytes i).state ≡ true → w.at ≤ length bytes → Passed head i w bytes w
  pass_open o h = record {
    found = [];
    is = λ ps. open_read (head_picker head) i w.many (piece_in bytes i) ps o (drop w.at bytes) ∙ next_start
        (partials_from head (suc i) w bytes ps);
    within = h;
    few = omega arith;
  }

  module _ (o : is_open (piece_in bytes i).state ≡ false) where
    pub pass_fails : (k : ℕ) → Went (get_partial (head_picker head) i w.many (piece_in bytes i) (drop w.at bytes)) bytes (Err k)
        → StepFails head i w bytes k
    unfolding Went
    pass_fails k f ps = record {
      is =
          shut_read (head_picker head) i w.many (piece_in bytes i) ps o (drop w.at bytes)
          ∙ next-fault _ (λ d m. next (get_partials (head_picker head) (suc i) (suc w.many) ps m) (λ ds. ret (d ∷ ds))) (drop k bytes)
          f.is;
      within = f.within;
    }

    pub pass_next : (k : ℕ) → Went (get_partial (head_picker head) i w.many (piece_in bytes i) (drop w.at bytes)) bytes (Ok k)
        → Passed head i w bytes (record { at = k; many = w.many + 1 })
    unfolding Went
    pass_next k f =
        let e : suc w.many ≡ w.many + 1 = omega arith in
        record {
          found = f.value ∷ [];
          is = λ ps.
              shut_read (head_picker head) i w.many (piece_in bytes i) ps o (drop w.at bytes)
              ∙ next-got _ (λ d m. next (get_partials (head_picker head) (suc i) (suc w.many) ps m) (λ ds. ret (d ∷ ds))) f.value
              (drop k bytes) f.is
              ∙ ap (λ (m : ℕ). next (get_partials (head_picker head) (suc i) m ps (drop k bytes)) (λ ds. ret (f.value ∷ ds))) e;
          within = f.within;
          few = omega arith;
        }

-- the reader of one partial, on the picker of the head and piece i
pub whole_at : (head : Head) (i at n number many state priority : ℕ) (bytes : List ℕ) (r to : Result ℕ ℕ)
    → PartialJudged at number n many state priority bytes r → number ≡ i → many ≡ piece_blocks head.total head.size i
    → (piece_in bytes i).state ≡ queue_from state → (piece_in bytes i).priority ≡ priority → r ≡ to
    → Went (get_partial (head_picker head) i n (piece_in bytes i) (drop at bytes)) bytes to
unfolding blocks_in_piece head_picker
whole_at head i at n number many state priority bytes r to h e em es ep er =
    subst (Went (get_partial (head_picker head) i n (piece_in bytes i) (drop at bytes)) bytes) er
    (subst (λ (x : ℕ). PartialJudged at x n many state priority bytes r) e h (head_picker head) (piece_in bytes i) (sym em) es ep)

-- ---- the walk
-- the pieces before i are passed, and what is left decides
pub record Walking (head : Head) (n : ℕ) (bytes : List ℕ) (w : Walk) (i : ℕ) : Type 0 where
  pub within : i ≤ n
  pub room : w.at ≤ length bytes
  pub few : w.many ≤ i
  pub before : List DownloadingPiece
  pub left : get_partials (head_picker head) 0 0 (first_pieces bytes n) (drop (piece_place n) bytes)
      ≡ next (partials_from head i w bytes (tail (piece_in bytes) i n)) (λ ds. ret (before ++ ds))

pub walking_start : (head : Head) (n : ℕ) (bytes : List ℕ) → piece_place n ≤ length bytes
    → Walking head n bytes (record { at = piece_place n; many = 0 }) 0
unfolding first_pieces
walking_start head n bytes h = record {
  within = omega arith;
  room = h;
  few = omega arith;
  before = [];
  left =
      next_start (get_partials (head_picker head) 0 0 (tabulate n (piece_in bytes)) (drop (piece_place n) bytes))
      ∙ ap (λ (ps : List Piece). next (get_partials (head_picker head) 0 0 ps (drop (piece_place n) bytes)) (λ ds. ret ([] ++ ds)))
      (sym (tail_all (piece_in bytes) n));
}

-- what was found before and now
next_both : {A : Type 0} (before now : List A) (g : Got (List A))
    → next (next g (λ l. ret (now ++ l))) (λ l. ret (before ++ l)) ≡ next g (λ l. ret ((before ++ now) ++ l))
unfolding next
next_both before now (got l rest) = ap (λ (m : List _). got m rest) (sym (append_assoc before now l))
next_both before now (fault rest) = refl

module _ (head : Head) (n : ℕ) (bytes : List ℕ) (w : Walk) (i : ℕ) (p : Walking head n bytes w i) where
  module _ (h : i < n) where
    step_left : get_partials (head_picker head) 0 0 (first_pieces bytes n) (drop (piece_place n) bytes)
        ≡ next (partials_from head i w bytes (piece_in bytes i ∷ tail (piece_in bytes) (i + 1) n)) (λ ds. ret (p.before ++ ds))
    step_left =
        p.left ∙ ap (λ (ps : List Piece). next (partials_from head i w bytes ps) (λ ds. ret (p.before ++ ds)))
        (tail_next (piece_in bytes) i n h)

    pub walking_next : (to : Walk) → Passed head i w bytes to → Walking head n bytes to (i + 1)
    walking_next to q =
        let e : suc i ≡ i + 1 = omega arith in
        record {
          within = omega arith;
          room = q.within;
          few = omega (arith, q.few);
          before = p.before ++ q.found;
          left =
              step_left
              ∙ ap (λ (g : Got (List DownloadingPiece)). next g (λ ds. ret (p.before ++ ds))) (q.is (tail (piece_in bytes) (i + 1) n))
              ∙ next_both p.before q.found (partials_from head (suc i) to bytes (tail (piece_in bytes) (i + 1) n))
              ∙ ap (λ (k : ℕ). next (partials_from head k to bytes (tail (piece_in bytes) (i + 1) n))
              (λ ds. ret ((p.before ++ q.found) ++ ds))) e;
        }

    pub walking_fault : (k : ℕ) → StepFails head i w bytes k
        → Went (get_partials (head_picker head) 0 0 (first_pieces bytes n) (drop (piece_place n) bytes)) bytes (Err k)
    unfolding Went
    walking_fault k f =
        let g = f (tail (piece_in bytes) (i + 1) n) in
        record { is = step_left ∙ next-fault _ (λ ds. ret (p.before ++ ds)) (drop k bytes) g.is; within = g.within }

  pub walking_end : n ≤ i → Went (get_partials (head_picker head) 0 0 (first_pieces bytes n) (drop (piece_place n) bytes)) bytes (Ok w.at)
  unfolding Went get_partials next
  walking_end h = record {
    value = p.before;
    is =
        p.left
        ∙ ap (λ (ps : List Piece). next (partials_from head i w bytes ps) (λ ds. ret (p.before ++ ds))) (tail_end (piece_in bytes) i n h)
        ∙ ap (λ (l : List DownloadingPiece). got l (drop w.at bytes)) (append-nil p.before);
    within = p.room;
  }
