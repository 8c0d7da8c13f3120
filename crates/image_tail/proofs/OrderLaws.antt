-- One turn of the pass over the list places: the rank of a piece that was listed is 0, and any other is its own. Assumes nothing.
use Rattle.std.specs.Prelude.{Err, None, Ok, Option as Optional, Result, Some}
use mathlib.Core.Path.{◌≡◌, refl, sym, ap, ◌∙◌, subst}
use mathlib.Core.Bool.{Bool, true, false, cond, not, ◌&&◌, and-false, or-true, or-false}
use mathlib.Core.List.{List, [], ◌∷◌, ◌++◌}
use mathlib.Core.Option.{Option}
use Prim.Native.Nat.{ℕ, suc, ◌+◌, ◌*◌, ◌-◌, ◌≤◌, ◌<◌}
use native.Mathlib.Omega.{arith}
use native.Mathlib.Decide.{ℕ_discrete, dec_lt}
use lib.Dec.{ltb, leb}
use lib.ListN.{length, get_or, set, take, drop}
use lib.Seq.{get_or-set_same, get_or-set_other}
use borrow.Author.Tests.{eq-eqb, ne_eqb, lt-ltb, le-ltb, le-leb, lt-leb, ltb-true, leb-true}
use Rattle.model.specs.Lists.{len, count, from, member, any, last_or}
use Rattle.model.specs.State.{Picker, dirty, fresh, pieces_in}
use Rattle.model.specs.list.Order.{rank, with_bucket}
use Rattle.model.specs.image.WellFormed.{place_ok}
use Rattle.model.specs.image.Image.{body_length, place_kind, Got, fault, ret, next, starts_with, given, judged, field, obeying, read_place}
use Rattle.model.specs.image.Image.{get_order}
use Rattle.model.specs.image.Image.{get_listing}
use Rattle.model.proofs.base.Counts.{length-filter}
use Rattle.model.proofs.base.Truths.{both_true}
use Rattle.check_pieces.proofs.Tails.{member_behind, last_behind, count_below}
use Rattle.check_list.specs.Places.{ranked_in}
use Rattle.check_list.proofs.ListTests.{left_of}
use Rattle.image_pieces.specs.Places.{Went}
use Rattle.image_pieces.proofs.NextLaws.{next-got, next-fault}
use Rattle.image_tail.specs.Order.{place_in, place_by, Found, Taken, RanksOf, OrderJudged, ListingJudged}

-- a reader of bodies that gives the same is judged the same
judged_same : {A : Type 0} (kind : ℕ) (read other : List ℕ → Option A) → ((body : List ℕ) → read body ≡ other body) → (bs : List ℕ)
    → judged kind read bs ≡ judged kind other bs
unfolding judged
judged_same {A} kind read other h bs =
    ap (λ (o : Option A). ◌>>?◌ o) (h (take (body_length kind) (drop 1 bs)))
  where
    ◌>>?◌ : Option A → Got A
    ◌>>?◌ o = elim (starts_with kind bs) [ true ↦ given bs (drop (suc (body_length kind)) bs) o | false ↦ fault bs ]

-- ---- one place
-- a rank, a place not passed and a rank that does not fall: one test of the rank that is left does for all three
one_test : (passed : Bool) (rank last : ℕ) (rises : Bool) → 1 ≤ last → (0 < rank → rises ≡ leb last rank)
    → (ltb 0 rank && (not passed && rises)) ≡ leb last (cond passed 0 rank)
one_test true rank last rises h f = and-false (ltb 0 rank) ∙ sym (lt-leb last 0 (omega arith))
one_test false rank last rises h f = elim (ℕ_discrete rank 0) [
  | yes q ↦ rw (le-ltb 0 rank (omega arith)) (sym (lt-leb last rank (omega arith)))
  | no q ↦ rw (lt-ltb 0 rank (omega arith)) (f (omega arith))
]

-- a rank that is left and not 0 is the rank
rank_left : (passed : Bool) (rank : ℕ) → 1 ≤ cond passed 0 rank → cond passed 0 rank ≡ rank
rank_left true rank h = absurd (omega arith)
rank_left false rank h = refl

-- a place that passes has no lower rank than the last one
low_rank : (n last : ℕ) (ranks : List ℕ) (i : ℕ) → place_in n last ranks i ≡ true → last ≤ get_or ranks i 0
unfolding place_in
low_rank n last ranks i e = leb-true last (get_or ranks i 0) (both_true (ltb i n) (leb last (get_or ranks i 0)) e).1

-- behind these places, the last one of rank `last`
pub record Placed (s : Picker) (n : ℕ) (ranks : List ℕ) (last : ℕ) (before : List ℕ) : Type 0 where
  pub pieces : pieces_in s ≡ n
  pub each : (j : ℕ) → j < n → get_or ranks j 0 ≡ left_of s before j
  pub lasts : (x : ℕ) → 0 < rank s x → leb (rank s (last_or x before)) (rank s x) ≡ leb last (rank s x)

module _ (s : Picker) (n : ℕ) (ranks : List ℕ) (last : ℕ) (before : List ℕ) (p : Placed s n ranks last before) (o : 1 ≤ last) where
  test_is : (i : ℕ) → place_ok s before i ≡ place_in n last ranks i
  unfolding place_ok place_in
  test_is i = elim (dec_lt i n) [
    | no l ↦ rw (p.pieces, le-ltb i n (omega arith))
    | yes l ↦ rw (p.pieces, lt-ltb i n l)
        (one_test (member i before) (rank s i) last _ o (p.lasts i) ∙ ap (leb last) (sym (unfold left_of in (p.each i l))))
  ]

  read_same : (bs : List ℕ) → judged place_kind (read_place s before) bs ≡ judged place_kind (place_by n last ranks) bs
  unfolding read_place place_by
  read_same bs =
      judged_same place_kind (read_place s before) (place_by n last ranks)
      (λ body. ap (λ (t : Bool). obeying t (field 0 4 body)) (test_is (field 0 4 body))) bs

  module _ (i : ℕ) (e : place_in n last ranks i ≡ true) (wide : n ≤ length ranks) where
    there : i < n
    unfolding place_in
    there = ltb-true i n (both_true (ltb i n) _ e).0

    low : last ≤ get_or ranks i 0
    low = low_rank n last ranks i e

    rank_is : rank s i ≡ get_or ranks i 0
    unfolding left_of
    rank_is =
        sym (rank_left (member i before) (rank s i) (omega (arith, p.each i there, low, o))) ∙ sym (p.each i there)

    rest : (j : ℕ) → j < n → get_or (set ranks i 0) j 0 ≡ left_of s (before ++ (i ∷ [])) j
    unfolding left_of
    rest j m =
        rw (member_behind j i before) (elim (ℕ_discrete j i) [
          | yes q ↦ ap (λ (k : ℕ). get_or (set ranks i 0) k 0) q ∙ get_or-set_same ranks i 0 0 (omega (arith, there, wide))
              ∙ sym (rw (eq-eqb j i q, or-true))
          | no q ↦ get_or-set_other ranks i j 0 0 q ∙ p.each j m ∙ sym (rw (ne_eqb j i q, or-false))
        ])

    placed_next : Placed s n (set ranks i 0) (get_or ranks i 0) (before ++ (i ∷ []))
    placed_next = record {
      pieces = p.pieces;
      each = rest;
      lasts = λ y q. rw (last_behind y i before, rank_is);
    }

-- ---- the pass
-- for one picker: what is left decides
pub record Ordering (s : Picker) (n start many : ℕ) (bytes ranks : List ℕ) (last at k : ℕ) : Type 0 where
  pub before : List ℕ
  pub placed : Placed s n ranks last before
  pub left : get_order s many [] (drop start bytes) ≡ get_order s (many - k) before (drop at bytes)

-- for every picker that has these ranks at the start
pub record Reading (n w start many : ℕ) (bytes first ranks : List ℕ) (last at k : ℕ) : Type 0 where
  pub within : k ≤ many
  pub place : at ≡ start + 5 * k
  pub room : at ≤ length bytes
  pub least : 1 ≤ last
  pub long : n ≤ w
  pub wide : length ranks ≡ w
  pub of : (s : Picker) → RanksOf n first s → Ordering s n start many bytes ranks last at k

pub reading_start : (n start many : ℕ) (bytes ranks : List ℕ) → n ≤ length ranks → start ≤ length bytes
    → Reading n (length ranks) start many bytes ranks ranks 1 start 0
unfolding left_of member any last_or
reading_start n start many bytes ranks h l = record {
  within = omega arith;
  place = omega arith;
  room = l;
  least = omega arith;
  long = h;
  wide = refl;
  of = λ s r. record {
    before = [];
    placed = record {
      pieces = r.pieces;
      each = r.each;
      lasts = λ x q. le-leb (rank s x) (rank s x) (omega arith) ∙ sym (le-leb 1 (rank s x) (omega arith));
    };
    left = ap (λ (m : ℕ). get_order s m [] (drop start bytes)) (omega arith);
  };
}

module _ (n w start many : ℕ) (bytes first ranks : List ℕ) (last at k : ℕ) (p : Reading n w start many bytes first ranks last at k) where
  module _ (h : k < many) where
    step_left : (s : Picker) (q : Ordering s n start many bytes ranks last at k) → get_order s many [] (drop start bytes)
        ≡ next (judged place_kind (place_by n last ranks) (drop at bytes)) (λ i. get_order s (many - (k + 1)) (q.before ++ (i ∷ [])))
    unfolding get_order
    step_left s q =
        let e : many - k ≡ suc (many - (k + 1)) = omega arith in
        q.left ∙ ap (λ (m : ℕ). get_order s m q.before (drop at bytes)) e
        ∙ ap (λ (g : Got ℕ). next g (λ i. get_order s (many - (k + 1)) (q.before ++ (i ∷ []))))
        (read_same s n ranks last q.before q.placed p.least (drop at bytes))

    stops : (exit : List ℕ) → Taken n last at bytes ranks exit None → OrderJudged start many n first bytes (Err at)
    unfolding Went Found
    stops exit t s r = record {
      is = step_left s (p.of s r) ∙ next-fault _ (λ i. get_order s (many - (k + 1)) ((p.of s r).before ++ (i ∷ []))) (drop at bytes)
          t.found;
      within = p.room;
    }

    goes_on : (exit : List ℕ) (x : ℕ) → Taken n last at bytes ranks exit (Some x) → Reading n w start many bytes first exit x (at + 5)
        (k + 1)
    unfolding Found
    goes_on exit x t =
        let f = t.found in
        let l = low_rank n last ranks f.piece f.passes in
        record {
          within = omega arith;
          place = omega (arith, p.place);
          room = f.room;
          least = omega (arith, p.least, f.rank, l);
          long = p.long;
          wide = t.long ∙ p.wide;
          of = λ s r.
              let q = p.of s r in
              record {
                before = q.before ++ (f.piece ∷ []);
                placed = rw (f.taken, f.rank) (placed_next s n ranks last q.before q.placed p.least f.piece f.passes
                    (omega (arith, p.long, p.wide)));
                left =
                    step_left s q
                    ∙ next-got _ (λ i. get_order s (many - (k + 1)) (q.before ++ (i ∷ []))) f.piece (drop (at + 5) bytes) f.is;
              };
        }

    pub reading_fault : (exit : List ℕ) (r : Optional ℕ) → Taken n last at bytes ranks exit r → r ≡ None → OrderJudged start many n
        first bytes (Err at)
    reading_fault exit r t e = stops exit (subst (Taken n last at bytes ranks exit) e t)

    pub reading_next : (exit : List ℕ) (r : Optional ℕ) → Taken n last at bytes ranks exit r → (x : ℕ) → r ≡ Some x
        → Reading n w start many bytes first exit x (at + 5) (k + 1)
    reading_next exit r t x e = goes_on exit x (subst (Taken n last at bytes ranks exit) e t)

  pub reading_end : many ≤ k → OrderJudged start many n first bytes (Ok at)
  unfolding Went get_order
  reading_end h s r =
      let e : many - k ≡ 0 = omega arith in
      record {
        value = (p.of s r).before;
        is = (p.of s r).left ∙ ap (λ (m : ℕ). get_order s m (p.of s r).before (drop at bytes)) e;
        within = p.room;
      }

-- ---- a reader that ends with what it found
pub went_on : {A B : Type 0} (bytes : List ℕ) (g : Got A) (f : A → B) (to : Result ℕ ℕ) → Went g bytes to → Went (next g (λ x. ret (f x)))
    bytes to
unfolding Went
went_on bytes g f (Ok k) w =
    record { value = f w.value; is = next-got g (λ x. ret (f x)) w.value (drop k bytes) w.is; within = w.within }
went_on bytes g f (Err k) w = record { is = next-fault g (λ x. ret (f x)) (drop k bytes) w.is; within = w.within }

-- ---- the list
-- a dirty one has no place
pub listing_dirty : (at n : ℕ) (is_dirty : Bool) (ranks bytes : List ℕ) → is_dirty ≡ true → at ≤ length bytes
    → ListingJudged at is_dirty n ranks bytes (Ok at)
unfolding Went get_listing
listing_dirty at n is_dirty ranks bytes e h s r = record {
  value = dirty;
  is = rw e;
  within = h;
}

-- any other has as many as there are pieces with a rank
module _ (at n : ℕ) (is_dirty : Bool) (ranks bytes : List ℕ) (e : is_dirty ≡ false) where
  many_is : (s : Picker) → RanksOf n ranks s → len (with_bucket s) ≡ ranked_in ranks n
  unfolding with_bucket ranked_in len
  many_is s r =
      length-filter (λ i. ltb 0 (rank s i)) (from 0 (pieces_in s)) ∙ ap (λ (m : ℕ). count (λ i. ltb 0 (rank s i)) (from 0 m)) r.pieces
      ∙ count_below (λ i. ltb 0 (rank s i)) (λ i. ltb 0 (get_or ranks i 0)) 0 n (λ i l. ap (ltb 0) (sym (r.each i (omega arith))))

  listing_is : (s : Picker) → RanksOf n ranks s → (many : ℕ) → many ≡ ranked_in ranks n
      → get_listing s (cond is_dirty dirty (fresh [])) (drop at bytes) ≡ next (get_order s many [] (drop at bytes)) (λ is. ret (fresh is))
  unfolding get_listing
  listing_is s r many em =
      rw (e, many_is s r, em)

  pub listing_fresh : (many : ℕ) → many ≡ ranked_in ranks n → (to : Result ℕ ℕ) → OrderJudged at many n ranks bytes to → ListingJudged at
      is_dirty n ranks bytes to
  listing_fresh many em to o s r = rw (listing_is s r many em) (went_on bytes (get_order s many [] (drop at bytes)) fresh to (o s r))
