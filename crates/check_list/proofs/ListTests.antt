-- The test of the list: the pieces with a rank counted, one step over a place, and one turn of the pass over the places. Assumes nothing.
use mathlib.Core.Path.{◌≡◌, refl, sym, ap, ◌∙◌}
use mathlib.Core.Bool.{Bool, true, false, cond, not, ◌&&◌, and-false, or-true, or-false}
use mathlib.Core.Logic.{◌≢◌}
use mathlib.Core.List.{List, []}
use Prim.Native.Nat.{ℕ, suc, ◌+◌, ◌-◌, ◌≤◌, ◌<◌}
use native.Mathlib.Decide.{ℕ_discrete, dec_le, dec_lt}
use native.Mathlib.Omega.{arith}
use lib.Dec.{eqb, ltb, leb}
use lib.ListN.{length, get_or, set, length-set}
use lib.Seq.{get_or-set_same, get_or-set_other}
use borrow.Author.Tests.{eq-eqb, ne_eqb, lt-ltb, le-ltb, le-leb, lt-leb, leb-true, ltb-true, eqb-true}
use Rattle.model.specs.Lists.{bit, count, every, from, len, member, any, last_or}
use Rattle.model.specs.State.{Listing as Fresh, Picker, fresh, pieces_in}
use Rattle.model.specs.list.Order.{rank, with_bucket}
use Rattle.model.specs.image.WellFormed.{place_ok, order_ok, listing_ok}
use Rattle.model.proofs.base.Counts.{lt_bit, ge_bit, length-filter}
use Rattle.model.proofs.base.Truths.{both_true}
use Rattle.list_entries.specs.Words.{listed_piece, listed_rank}
use Rattle.memory_records.specs.declared.record.DownloadingPiece.{DownloadingPiece as Record}
use Rattle.memory_layout.specs.declared.shape.Shape.{Shape}
use Rattle.memory_layout.specs.Tables.{tabulate}
use Rattle.memory_layout.specs.Decode.{head_word, piece_word, pieces_on, yes?, list_held, listing_held, decode}
use Rattle.memory_layout.specs.Bounds.{WordColumn}
use Rattle.memory_layout.specs.Good.{rank_raw, good_list}
use Rattle.memory_layout.proofs.TableLaws.{tabulate-len}
use Rattle.check_pieces.specs.Parts.{HeadPassed, RanksOf}
use Rattle.check_pieces.proofs.HeadLaws.{headed}
use Rattle.check_pieces.proofs.Passes.{every_next, every_end, every_start}
use Rattle.check_pieces.proofs.Tails.{tail, tail_all, tail_next, tail_end, front_next, member_behind, last_behind, count_below}
use Rattle.check_pieces.proofs.ExtentTests.{pieces_in_lem}
use Rattle.check_list.specs.Places.{ranked_in, place_in, Stepped}
use Rattle.check_list.specs.Answers.{places_ok, PlaceTest, ListTest}

-- ---- how many ranks are not 0
-- those counted and those that are left are all
pub record Counting (ranks : List ℕ) (n many i : ℕ) : Type 0 where
  pub within : i ≤ n
  pub few : many ≤ i
  pub left : many + count (λ j. ltb 0 (get_or ranks j 0)) (from i (n - i)) ≡ ranked_in ranks n

pub counting_start : (ranks : List ℕ) (n : ℕ) → Counting ranks n 0 0
unfolding ranked_in
counting_start ranks n =
    let e : n - 0 ≡ n = omega arith in
    record { within = omega arith; few = omega arith; left = rw e (omega arith) }

module _ (ranks : List ℕ) (n many i : ℕ) (p : Counting ranks n many i) where
  count_step : i < n → count (λ j. ltb 0 (get_or ranks j 0)) (from i (n - i)) ≡ bit (ltb 0 (get_or ranks i 0)) + count (λ j. ltb 0 (get_or ranks j 0)) (from (i + 1) (n - (i + 1)))
  unfolding count from
  count_step h =
      let e : n - i ≡ suc (n - (i + 1)) = omega arith in
      let f : suc i ≡ i + 1 = omega arith in
      ap (λ (k : ℕ). count (λ j. ltb 0 (get_or ranks j 0)) (from i k)) e
      ∙ ap (λ (k : ℕ). bit (ltb 0 (get_or ranks i 0)) + count (λ j. ltb 0 (get_or ranks j 0)) (from k (n - (i + 1)))) f

  pub count_one : i < n → 0 < get_or ranks i 0 → (now : ℕ) → now ≡ many + 1 → Counting ranks n now (i + 1)
  count_one h g now e =
      record { within = omega arith; few = omega (arith, p.few); left = omega (arith, p.left, count_step h, lt_bit 0 (get_or ranks i 0) g) }

  pub count_none : i < n → get_or ranks i 0 ≤ 0 → (now : ℕ) → now ≡ many → Counting ranks n now (i + 1)
  count_none h g now e =
      record { within = omega arith; few = omega (arith, p.few); left = omega (arith, p.left, count_step h, ge_bit 0 (get_or ranks i 0) g) }

  pub count_end : n ≤ i → many ≡ ranked_in ranks n
  unfolding count from
  count_end h =
      let e : n - i ≡ 0 = omega arith in
      let f : count (λ j. ltb 0 (get_or ranks j 0)) (from i (n - i)) ≡ 0 = ap (λ (k : ℕ). count (λ j. ltb 0 (get_or ranks j 0)) (from i k)) e in
      omega (arith, p.left)

-- ---- one step
module _ (n last word : ℕ) (entry : List ℕ) where
  -- a step that fails leaves the ranks
  failed : place_in n last word entry ≡ false → Stepped n last word entry 0 entry
  failed e = record {
    fails = λ z. e;
    passes = λ z. absurd (z refl);
    rank = λ z. absurd (z refl);
    taken = λ z. absurd (z refl);
    long = refl;
  }

  pub falls : listed_rank word < last → Stepped n last word entry 0 entry
  unfolding place_in
  falls h = failed (rw (lt-leb last (listed_rank word) h))

  module _ (l : last ≤ listed_rank word) (piece : ℕ) (ep : piece ≡ listed_piece word) where
    pub outside : n ≤ piece → Stepped n last word entry 0 entry
    unfolding place_in
    outside h = failed (rw (le-leb last (listed_rank word) l, le-ltb (listed_piece word) n (omega (arith, ep))))

    module _ (m : piece < n) (held : ℕ) (eh : held ≡ get_or entry piece 0) where
      held_is : held ≡ get_or entry (listed_piece word) 0
      held_is = eh ∙ ap (λ (i : ℕ). get_or entry i 0) ep

      pub other_rank : held ≢ listed_rank word → Stepped n last word entry 0 entry
      unfolding place_in
      other_rank h =
          failed (rw (le-leb last (listed_rank word) l, lt-ltb (listed_piece word) n (omega (arith, ep)), ne_eqb (get_or entry (listed_piece word) 0) (listed_rank word) (λ e. h (held_is ∙ e))))

      pub stepped : 1 ≤ last → held ≡ listed_rank word → Stepped n last word entry (listed_rank word) (set entry piece 0)
      unfolding place_in
      stepped o h = record {
        fails = λ z. absurd (omega arith);
        passes = λ z. rw (le-leb last (listed_rank word) l, lt-ltb (listed_piece word) n (omega (arith, ep)), eq-eqb (get_or entry (listed_piece word) 0) (listed_rank word) (sym held_is ∙ h));
        rank = λ z. refl;
        taken = λ z. ap (λ (i : ℕ). set entry i 0) ep;
        long = length-set entry piece 0;
      }

-- ---- the places
-- the piece at place k of the list
unfoldable pub place_at : (words : List ℕ) (k : ℕ) → ℕ
place_at words k = listed_piece (piece_word words (pieces_on words) 1 k)

-- whether place k has the rank of its piece
unfoldable pub rank_at : (d : Picker) (words : List ℕ) (k : ℕ) → Bool
rank_at d words k = rank_raw words (pieces_on words) (rank d) k

-- the rank of a piece that was passed is 0, and any other is its own
unfoldable pub left_of : (d : Picker) (before : List ℕ) (j : ℕ) → ℕ
left_of d before j = cond (member j before) 0 (rank d j)

-- what is left decides, the ranks are those of the pieces not passed, and the last place has rank `last`
pub record Ordering (d : Picker) (n : ℕ) (words ranks : List ℕ) (last k : ℕ) (whole : Bool) : Type 0 where
  pub left : (every (rank_at d words) (from k (head_word words 6 - k))
      && order_ok d (tabulate k (place_at words)) (tail (place_at words) k (head_word words 6))) ≡ whole
  pub each : (j : ℕ) → j < n → get_or ranks j 0 ≡ left_of d (tabulate k (place_at words)) j
  pub lasts : (x : ℕ) → 0 < rank d x → leb (rank d (last_or x (tabulate k (place_at words)))) (rank d x) ≡ leb last (rank d x)

-- a rank, a place not passed and a rank that does not fall: one test of the rank that is left does for all three
one_test : (passed : Bool) (rank last : ℕ) (rises : Bool) → 1 ≤ last → (0 < rank → rises ≡ leb last rank)
    → (ltb 0 rank && (not passed && rises)) ≡ leb last (cond passed 0 rank)
one_test true rank last rises h f = and-false (ltb 0 rank) ∙ sym (lt-leb last 0 (omega arith))
one_test false rank last rises h f = elim (ℕ_discrete rank 0) [
  | yes q ↦ rw (le-ltb 0 rank (omega arith)) (sym (lt-leb last rank (omega arith)))
  | no q ↦ rw (lt-ltb 0 rank (omega arith)) (f (omega arith))
]

-- with the rank beside the place, it is one test of that rank
beside : (passed : Bool) (q rank last : ℕ) → 1 ≤ last → (eqb q rank && leb last (cond passed 0 rank)) ≡ (leb last q && eqb (cond passed 0 rank) q)
beside true q rank last h =
    rw (lt-leb last 0 (omega arith), and-false (eqb q rank)) (elim (dec_le last q) [
      | yes l ↦ rw (le-leb last q l) (sym (ne_eqb 0 q (λ e. absurd (omega arith))))
      | no l ↦ rw (lt-leb last q (omega arith))
    ])
beside false q rank last h = elim (ℕ_discrete q rank) [
  | yes e ↦ rw (eq-eqb q rank e, eq-eqb rank q (sym e), ← e) (go (leb last q))
  | no e ↦ rw (ne_eqb q rank e, ne_eqb rank q (λ z. e (sym z)), and-false)
]
  where
    go : (t : Bool) → t ≡ (t && true)
    go true = refl
    go false = refl

-- two tests of the place and the rest of both, in another order
both_next : (a b c d : Bool) → ((a && b) && (c && d)) ≡ ((a && c) && (b && d))
both_next true true c d = refl
both_next true false true d = refl
both_next true false false d = refl
both_next false b c d = refl

swap : (a b c : Bool) → (a && (b && c)) ≡ (b && (a && c))
swap true true c = refl
swap true false c = refl
swap false true c = refl
swap false false c = refl

-- a rank that is left and not 0 is the rank
rank_left : (passed : Bool) (rank : ℕ) → 1 ≤ cond passed 0 rank → cond passed 0 rank ≡ rank
rank_left true rank h = absurd (omega arith)
rank_left false rank h = refl

module _ (d : Picker) (n : ℕ) (words ranks : List ℕ) (last k : ℕ) (whole : Bool) (p : Ordering d n words ranks last k whole) (o : 1 ≤ last)
    (en : pieces_in d ≡ n) (ep : n ≡ pieces_on words) (h : k < head_word words 6) where
  step : whole ≡ ((rank_at d words k && place_ok d (tabulate k (place_at words)) (place_at words k))
      && (every (rank_at d words) (from (k + 1) (head_word words 6 - (k + 1)))
      && order_ok d (tabulate (k + 1) (place_at words)) (tail (place_at words) (k + 1) (head_word words 6))))
  unfolding order_ok
  step =
      sym p.left
      ∙ rw (every_next (rank_at d words) k (head_word words 6) h, tail_next (place_at words) k (head_word words 6) h, front_next (place_at words) k)
      (both_next (rank_at d words k) _ (place_ok d (tabulate k (place_at words)) (place_at words k)) _)

  module _ (word : ℕ) (ew : word ≡ piece_word words n 1 k) where
    word_is : piece_word words (pieces_on words) 1 k ≡ word
    word_is = sym (ew ∙ ap (λ (m : ℕ). piece_word words m 1 k) ep)

    piece_is : place_at words k ≡ listed_piece word
    unfolding place_at
    piece_is = ap listed_piece word_is

    test_is : (rank_at d words k && place_ok d (tabulate k (place_at words)) (place_at words k)) ≡ place_in n last word ranks
    unfolding rank_at rank_raw place_ok place_in
    test_is = elim (dec_lt (listed_piece word) n) [
      | no l ↦ rw (word_is, piece_is, en, le-ltb (listed_piece word) n (omega arith), and-false (eqb (listed_rank word) (rank d (listed_piece word))), and-false (leb last (listed_rank word)))
      | yes l ↦ rw (word_is, piece_is, en, lt-ltb (listed_piece word) n l, one_test (member (listed_piece word) (tabulate k (place_at words))) (rank d (listed_piece word)) last _ o (p.lasts (listed_piece word)))
          (beside (member (listed_piece word) (tabulate k (place_at words))) (listed_rank word) (rank d (listed_piece word)) last o
          ∙ ap (λ (x : ℕ). leb last (listed_rank word) && eqb x (listed_rank word)) (sym (unfold left_of in (p.each (listed_piece word) l))))
    ]

    pub place_bad : place_in n last word ranks ≡ false → false ≡ whole
    place_bad e = sym (step ∙ rw (test_is ∙ e))

    -- a place that passes: it is a piece, and the rank beside it is the one that is left, and so its own
    module _ (e : place_in n last word ranks ≡ true) (wide : n ≤ length ranks) where
      low : last ≤ listed_rank word
      unfolding place_in
      low = leb-true last (listed_rank word) (both_true (leb last (listed_rank word)) _ e).0

      there : listed_piece word < n
      unfolding place_in
      there = ltb-true (listed_piece word) n (both_true (ltb (listed_piece word) n) _ (both_true (leb last (listed_rank word)) _ e).1).0

      held : get_or ranks (listed_piece word) 0 ≡ listed_rank word
      unfolding place_in
      held =
          eqb-true (get_or ranks (listed_piece word) 0) (listed_rank word)
          (both_true (ltb (listed_piece word) n) (eqb (get_or ranks (listed_piece word) 0) (listed_rank word)) (both_true (leb last (listed_rank word)) _ e).1).1

      rank_is : rank d (listed_piece word) ≡ listed_rank word
      unfolding left_of
      rank_is =
          sym (rank_left (member (listed_piece word) (tabulate k (place_at words))) (rank d (listed_piece word)) (omega (arith, p.each (listed_piece word) there, held, low, o)))
          ∙ sym (p.each (listed_piece word) there) ∙ held

      rest : (j : ℕ) → j < n → get_or (set ranks (listed_piece word) 0) j 0 ≡ left_of d (tabulate (k + 1) (place_at words)) j
      unfolding left_of
      rest j m =
          rw (front_next (place_at words) k, piece_is, member_behind) (elim (ℕ_discrete j (listed_piece word)) [
            | yes q ↦ ap (λ (i : ℕ). get_or (set ranks (listed_piece word) 0) i 0) q
                ∙ get_or-set_same ranks (listed_piece word) 0 0 (omega (arith, there, wide)) ∙ sym (rw (eq-eqb j (listed_piece word) q, or-true))
            | no q ↦ get_or-set_other ranks (listed_piece word) j 0 0 q ∙ p.each j m ∙ sym (rw (ne_eqb j (listed_piece word) q, or-false))
          ])

      pub place_next : Ordering d n words (set ranks (listed_piece word) 0) (listed_rank word) (k + 1) whole
      place_next = record {
        left = sym (step ∙ rw (test_is ∙ e));
        each = rest;
        lasts = λ y q. rw (front_next (place_at words) k, last_behind y (place_at words k) (tabulate k (place_at words)), piece_is, rank_is);
      }

-- ---- all places
-- the same for every picker that has these ranks at the start
pub record Listing (n w : ℕ) (words start ranks : List ℕ) (last k : ℕ) : Type 0 where
  pub within : k ≤ head_word words 6
  pub least : 1 ≤ last
  pub long : n ≤ w
  pub wide : length ranks ≡ w
  pub of : (cells : List ℕ) → RanksOf n words cells start → (records : List Record)
      → Ordering (decode records words cells) n words ranks last k (places_ok records words cells)

pub listing_start : (n : ℕ) (words ranks : List ℕ) → n ≤ length ranks → Listing n (length ranks) words ranks ranks 1 0
unfolding places_ok rank_at list_held place_at tabulate member any last_or left_of
listing_start n words ranks h = record {
  within = omega arith;
  least = omega arith;
  long = h;
  wide = refl;
  of = λ cells r records. record {
    left =
        ap (λ (t : Bool). t && order_ok (decode records words cells) [] (tail (place_at words) 0 (head_word words 6))) (every_start (rank_raw words (pieces_on words) (rank (decode records words cells))) (head_word words 6))
        ∙ ap (λ (l : List ℕ). every (rank_raw words (pieces_on words) (rank (decode records words cells))) (from 0 (head_word words 6)) && order_ok (decode records words cells) [] l) (tail_all (place_at words) (head_word words 6));
    each = r records;
    lasts = λ x q. le-leb (rank (decode records words cells) x) (rank (decode records words cells) x) (omega arith) ∙ sym (le-leb 1 (rank (decode records words cells) x) (omega arith));
  };
}

module _ (s : Shape) (words : List ℕ) (r : HeadPassed s words) (w : ℕ) (start ranks : List ℕ) (last k : ℕ)
    (p : Listing s.pieces w words start ranks last k) where
  module _ (h : k < head_word words 6) (list : List ℕ) (el : WordColumn words s.pieces 1 list) (now : ℕ) (exit : List ℕ)
      (q : Stepped s.pieces last (get_or list k 0) ranks now exit) where
    word_at : get_or list k 0 ≡ piece_word words s.pieces 1 k
    word_at = el.word k (omega (arith, r.pieces, (headed s words r).list))

    pieces_are : (cells : List ℕ) (records : List Record) → pieces_in (decode records words cells) ≡ s.pieces
    pieces_are cells records = pieces_in_lem records words cells ∙ sym r.pieces

    pub step_bad : now ≡ 0 → PlaceTest s.pieces false words start
    step_bad z cells t records =
        place_bad (decode records words cells) s.pieces words ranks last k (places_ok records words cells) (p.of cells t records) p.least (pieces_are cells records) r.pieces h (get_or list k 0) word_at (q.fails z)

    pub step_next : now ≢ 0 → Listing s.pieces w words start exit now (k + 1)
    step_next z = record {
      within = omega arith;
      least = omega (arith, z);
      long = p.long;
      wide = q.long ∙ p.wide;
      of = λ cells t records.
          rw (q.rank z, q.taken z)
          (place_next (decode records words cells) s.pieces words ranks last k (places_ok records words cells) (p.of cells t records) p.least (pieces_are cells records) r.pieces h (get_or list k 0) word_at (q.passes z) (omega (arith, p.long, p.wide)));
    }

  pub places_end : head_word words 6 ≤ k → PlaceTest s.pieces true words start
  unfolding order_ok
  places_end h cells t records =
      sym (rw (every_end (rank_at (decode records words cells) words) k (head_word words 6) h) (ap (order_ok (decode records words cells) (tabulate k (place_at words))) (tail_end (place_at words) k (head_word words 6) h)))
      ∙ (p.of cells t records).left

-- ---- the list
module _ (s : Shape) (words ranks : List ℕ) (r : HeadPassed s words) (flag : ℕ) (ef : flag ≡ head_word words 5) where
  pub dirty_list : flag ≡ 1 → ListTest s.pieces true words ranks
  unfolding good_list listing_held yes? listing_ok every from
  dirty_list e cells t records =
      rw (eq-eqb (head_word words 5) 1 (sym ef ∙ e), (headed s words r).idle (sym ef ∙ e))

  module _ (fresh_list : flag ≢ 1) where
    fresh_is : listing_held words (pieces_on words) ≡ fresh (list_held words (pieces_on words))
    unfolding listing_held yes?
    fresh_is = rw (ne_eqb (head_word words 5) 1 (λ e. fresh_list (ef ∙ e)))

    list_parts : (cells : List ℕ) (records : List Record)
        → good_list records words cells ≡ (eqb (len (list_held words (pieces_on words))) (len (with_bucket (decode records words cells))) && places_ok records words cells)
    unfolding good_list listing_ok places_ok
    list_parts cells records =
        let d = decode records words cells in
        let ranked = every (rank_raw words (pieces_on words) (rank d)) (from 0 (head_word words 6)) in
        ap (λ (l : Fresh). ranked && listing_ok d l) fresh_is
        ∙ swap ranked (eqb (len (list_held words (pieces_on words))) (len (with_bucket d))) (order_ok d [] (list_held words (pieces_on words)))

    size_is : len (list_held words (pieces_on words)) ≡ head_word words 6
    unfolding list_held
    size_is = tabulate-len (head_word words 6) (λ k. listed_piece (piece_word words (pieces_on words) 1 k))

    ranked_is : (cells : List ℕ) → RanksOf s.pieces words cells ranks → (records : List Record) → len (with_bucket (decode records words cells)) ≡ ranked_in ranks s.pieces
    unfolding with_bucket ranked_in len
    ranked_is cells t records =
        length-filter (λ i. ltb 0 (rank (decode records words cells) i)) (from 0 (pieces_in (decode records words cells)))
        ∙ ap (λ (n : ℕ). count (λ i. ltb 0 (rank (decode records words cells) i)) (from 0 n)) (pieces_in_lem records words cells ∙ sym r.pieces)
        ∙ count_below (λ i. ltb 0 (rank (decode records words cells) i)) (λ i. ltb 0 (get_or ranks i 0)) 0 s.pieces (λ i l. ap (ltb 0) (sym (t records i (omega arith))))

    module _ (many counted : ℕ) (em : many ≡ head_word words 6) (ec : counted ≡ ranked_in ranks s.pieces) where
      pub other_many : counted ≢ many → ListTest s.pieces false words ranks
      other_many n cells t records =
          sym (list_parts cells records ∙ rw (size_is, ranked_is cells t records, ne_eqb (head_word words 6) (ranked_in ranks s.pieces) (λ q. n (omega arith))))

      pub as_many : counted ≡ many → (b : Bool) → PlaceTest s.pieces b words ranks → ListTest s.pieces b words ranks
      as_many q b p cells t records =
          p cells t records ∙ sym (list_parts cells records ∙ rw (size_is, ranked_is cells t records, eq-eqb (head_word words 6) (ranked_in ranks s.pieces) (omega arith)))
