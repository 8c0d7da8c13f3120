-- The test on the bucket list, place by place, and what it says of each piece, are the same.
use mathlib.Core.Path.{◌≡◌, refl, sym, ◌∙◌}
use mathlib.Core.Logic.{◌↔◌}
use Prim.Native.Nat.{ℕ, ◌+◌, ◌≤◌, ◌<◌}
use native.Mathlib.Decide.{ℕ_discrete, dec_le}
use native.Mathlib.Omega.{arith}
use mathlib.Core.Bool.{true, false, not}
use mathlib.Core.List.{List, [], ◌∷◌, ◌++◌}
use lib.Dec.{eqb, ltb, leb}
use borrow.Author.Tests.{ltb-true, ltb-false, lt-ltb, le-ltb, leb-true, le-leb, eqb-true, eq-eqb, not-true}
use Rattle.model.specs.Lists.{bit, count, len, member, last_or}
use Rattle.model.specs.State.{Picker, Listing, dirty, fresh, pieces_in}
use Rattle.model.specs.list.Order.{rank, with_bucket}
use Rattle.model.specs.image.WellFormed.{place_ok, order_ok, listing_ok}
use Rattle.model.specs.list.Listed.{rising_from, rising, Listed, ListingOf, ListingOk}
use Rattle.model.proofs.base.Truths.{both_true, true_both}
use Rattle.model.proofs.base.Counts.{lt_bit, ge_bit, eq_bit, ne_bit, bit_le, count_append, some_count, counts_within}
use Rattle.model.proofs.base.Counts.{permuted_length, filter_within, filter_beyond}
use Rattle.model.proofs.list.ListedLaws.{listed_permuted}

-- ---- lists
-- what is no member stands nowhere
no_member : (x : ℕ) (l : List ℕ) → member x l ≡ false → count (eqb x) l ≡ 0
unfolding member
no_member x l h = omega (arith, ltb-false 0 (count (eqb x) l) (sym (some_count (eqb x) l) ∙ h))

stands_nowhere : (x : ℕ) (l : List ℕ) → count (eqb x) l ≡ 0 → member x l ≡ false
unfolding member
stands_nowhere x l h = some_count (eqb x) l ∙ le-ltb 0 (count (eqb x) l) (omega arith)

-- one more behind a list
count_behind : (i x : ℕ) (l : List ℕ) → count (eqb i) (l ++ (x ∷ [])) ≡ count (eqb i) l + bit (eqb i x)
unfolding count
count_behind i x l = omega (arith, count_append (eqb i) l (x ∷ []))

last_behind : (d x : ℕ) (l : List ℕ) → last_or d (l ++ (x ∷ [])) ≡ x
unfolding last_or
last_behind d x [] = refl
last_behind d x (y ∷ ys) = last_behind y x ys

module _ (s : Picker) where
  -- ---- the test on one place
  place_ok_lem : (before : List ℕ) (x : ℕ) → place_ok s before x ≡ true
      → (x < pieces_in s) × (0 < rank s x) × (count (eqb x) before ≡ 0) × (rank s (last_or x before) ≤ rank s x)
  unfolding place_ok
  place_ok_lem before x h =
      let a = both_true (ltb x (pieces_in s)) _ h in
      let b = both_true (ltb 0 (rank s x)) _ a.1 in
      let c = both_true (not (member x before)) _ b.1 in (
        ltb-true x (pieces_in s) a.0,
        ltb-true 0 (rank s x) b.0,
        no_member x before (not-true (member x before) c.0),
        leb-true (rank s (last_or x before)) (rank s x) c.1,
      )

  ok_place : (before : List ℕ) (x : ℕ) → x < pieces_in s → 0 < rank s x → count (eqb x) before ≡ 0 → rank s (last_or x before) ≤ rank s x
      → place_ok s before x ≡ true
  unfolding place_ok
  ok_place before x a b c d = rw (
    lt-ltb x (pieces_in s) a,
    lt-ltb 0 (rank s x) b,
    stands_nowhere x before c,
    le-leb (rank s (last_or x before)) (rank s x) d,
  )

  -- ---- the pieces with a bucket
  -- each of them once
  bucket_once : (x : ℕ) → x < pieces_in s → 0 < rank s x → count (eqb x) (with_bucket s) ≡ 1
  unfolding with_bucket
  bucket_once x h g = filter_within (λ i. ltb 0 (rank s i)) x (pieces_in s) h ∙ lt_bit 0 (rank s x) g

  -- and no other
  bucket_only : (x : ℕ) → 1 ≤ count (eqb x) (with_bucket s) → (x < pieces_in s) × (0 < rank s x)
  unfolding with_bucket
  bucket_only x h = elim (dec_le (pieces_in s) x) [
    | yes p ↦ absurd (omega (arith, filter_beyond (λ i. ltb 0 (rank s i)) x (pieces_in s) p))
    | no p ↦ (
        let l : x < pieces_in s = omega arith in
        elim (dec_le (rank s x) 0) [
          | yes q ↦ absurd (omega (arith, filter_within (λ i. ltb 0 (rank s i)) x (pieces_in s) l, ge_bit 0 (rank s x) q))
          | no q ↦ (l, omega arith)
        ]
        )
  ]

  -- ---- from the test, behind some places
  -- no piece stands more often than it is to
  order_counts : (before l : List ℕ) (i : ℕ) → order_ok s before l ≡ true → count (eqb i) before ≤ count (eqb i) (with_bucket s)
      → count (eqb i) before + count (eqb i) l ≤ count (eqb i) (with_bucket s)
  unfolding order_ok count
  order_counts before [] i h g = omega arith
  order_counts before (x ∷ xs) i h g =
      let a = both_true (place_ok s before x) (order_ok s (before ++ (x ∷ [])) xs) h in
      let p = place_ok_lem before x a.0 in
      let e = count_behind i x before in
      let here : count (eqb i) (before ++ (x ∷ [])) ≤ count (eqb i) (with_bucket s) = elim (ℕ_discrete i x) [
        | yes q ↦ rw q (omega (arith, count_behind x x before, p.2, bit_le (eqb x x), bucket_once x p.0 p.1))
        | no n ↦ omega (arith, ne_bit i x n)
      ] in
      omega (arith, order_counts (before ++ (x ∷ [])) xs i a.1 here)

  -- ranks do not fall: lo stands for the rank of the last place before, 0 where there is none
  order_rises : (before l : List ℕ) (lo : ℕ) → order_ok s before l ≡ true → ((x : ℕ) → rank s (last_or x before) ≤ rank s x → lo ≤ rank s x)
      → rising_from (rank s) lo l ≡ true
  unfolding order_ok rising_from
  order_rises before [] lo h f = refl
  order_rises before (x ∷ xs) lo h f =
      let a = both_true (place_ok s before x) (order_ok s (before ++ (x ∷ [])) xs) h in
      let p = place_ok_lem before x a.0 in
      true_both (leb lo (rank s x)) (rising_from (rank s) (rank s x) xs) (le-leb lo (rank s x) (f x p.3))
      (order_rises (before ++ (x ∷ [])) xs (rank s x) a.1 (λ y k. rw (last_behind y x before) at k))

  -- ---- to the test
  orders : (before l : List ℕ) (lo : ℕ) → ((i : ℕ) → count (eqb i) before + count (eqb i) l ≤ count (eqb i) (with_bucket s))
      → ((x : ℕ) → lo ≤ rank s x → rank s (last_or x before) ≤ rank s x) → rising_from (rank s) lo l ≡ true → order_ok s before l ≡ true
  unfolding order_ok rising_from count
  orders before [] lo f g r = refl
  orders before (x ∷ xs) lo f g r =
      let b = both_true (leb lo (rank s x)) (rising_from (rank s) (rank s x) xs) r in
      let one = eq_bit x x refl in
      let q = bucket_only x (omega (arith, f x)) in
      let nowhere : count (eqb x) before ≡ 0 = omega (arith, f x, bucket_once x q.0 q.1) in
      true_both (place_ok s before x) (order_ok s (before ++ (x ∷ [])) xs)
      (ok_place before x q.0 q.1 nowhere (g x (leb-true lo (rank s x) b.0)))
      (orders (before ++ (x ∷ [])) xs (rank s x) (λ i. omega (arith, f i, count_behind i x before)) (λ y k. rw (last_behind y x before) k) b.1)

  -- ---- the list
  -- a list that passes has each piece with a bucket once, ranks never falling
  pub order_listed : (l : List ℕ) → len l ≡ len (with_bucket s) → order_ok s [] l ≡ true → Listed (rank s) (pieces_in s) l
  unfolding len count rising last_or with_bucket
  order_listed l e h =
      let same = counts_within l (with_bucket s) (λ i. omega (arith, order_counts [] l i h (omega arith))) e in record {
        order = order_rises [] l 0 h (λ x k. omega arith);
        within = λ i u. sym (same (eqb i)) ∙ filter_within (λ k. ltb 0 (rank s k)) i (pieces_in s) u;
        beyond = λ i u. sym (same (eqb i)) ∙ filter_beyond (λ k. ltb 0 (rank s k)) i (pieces_in s) u;
      }

  -- and the other way
  pub listed_order : (l : List ℕ) → Listed (rank s) (pieces_in s) l → (len l ≡ len (with_bucket s)) × (order_ok s [] l ≡ true)
  unfolding len count rising last_or with_bucket
  listed_order l g =
      let same = listed_permuted (rank s) (pieces_in s) l g in (
        permuted_length (with_bucket s) l same,
        orders [] l 0 (λ i. omega (arith, same (eqb i))) (λ x k. omega arith) g.order,
      )

  -- the test on a list that may be dirty
  test_of : (k : Listing) → (listing_ok s k ≡ true) ↔ ListingOf (rank s) (pieces_in s) k
  unfolding listing_ok
  test_of dirty = ((λ h. tt), (λ g. refl))
  test_of (fresh l) = (
    (λ h. let a = both_true (eqb (len l) (len (with_bucket s))) (order_ok s [] l) h in
        order_listed l (eqb-true (len l) (len (with_bucket s)) a.0) a.1),
    (λ g. let a = listed_order l g in
        true_both (eqb (len l) (len (with_bucket s))) (order_ok s [] l) (eq-eqb (len l) (len (with_bucket s)) a.0) a.1),
  )

  -- the picker's list passes where it is dirty or as it is to be
  pub listing_test : (listing_ok s s.listing ≡ true) ↔ ListingOk s
  unfolding ListingOk
  listing_test = test_of s.listing
