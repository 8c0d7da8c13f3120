-- How many of a list pass a test: after a part, an exchange, a place taken out; places of elements; lists that hold the same as often.
use mathlib.Core.Path.{◌≡◌, refl, sym, ap, ◌∙◌}
use mathlib.Core.Logic.{◌≢◌, ◌⊎◌, inl, inr}
use mathlib.Core.Bool.{Bool, true, false, not, cond, ◌&&◌, ◌||◌}
use mathlib.Core.List.{List, [], ◌∷◌, ◌++◌, map}
use Prim.Native.Nat.{ℕ, zero, suc, ◌+◌, ◌≤◌, ◌<◌}
use native.Mathlib.Nat.{le_of_suc-le-suc}
use native.Mathlib.Decide.{ℕ_discrete, dec_le}
use native.Mathlib.Omega.{arith}
use lib.Dec.{T, eqb, ltb}
use lib.ListN.{length, get_or, set, take, drop}
use borrow.Author.Tests.{lt-ltb, le-ltb, eq-eqb, ne_eqb}
use Rattle.model.specs.Lists.{bit, count, filter, from, any, remove_nth, place_of}
use Rattle.model.specs.list.Listed.{Permuted}

-- a test, either way
pub cond_both {ℓ κ} : {X : Type ℓ} (P : X → Type κ) (t : Bool) (x y : X) → (T t → P x) → (T (not t) → P y) → P (cond t x y)
cond_both P true x y f g = f tt
cond_both P false x y f g = g tt

-- a test beside one that passes
pub and_true : (p : Bool) → (p && true) ≡ p
and_true true = refl
and_true false = refl

-- and beside one that does not
pub and_false : (p : Bool) → (p && false) ≡ false
and_false true = refl
and_false false = refl

-- c is below k, at k, or above
pub three : (c k : ℕ) → (c < k) ⊎ ((c ≡ k) ⊎ (k < c))
three c k = elim (dec_le k c) [
  | yes q ↦ elim (ℕ_discrete c k) [ yes e ↦ inr (inl e) | no n ↦ inr (inr (omega arith)) ]
  | no q ↦ inl (omega arith)
]

-- ---- the bits of tests on numbers
-- c is below k
pub lt_bit : (c k : ℕ) → c < k → bit (ltb c k) ≡ 1
lt_bit c k h = ap bit (lt-ltb c k h)

-- c is not below k
pub ge_bit : (c k : ℕ) → k ≤ c → bit (ltb c k) ≡ 0
ge_bit c k h = ap bit (le-ltb c k h)

-- the numbers are the same
pub eq_bit : (k c : ℕ) → k ≡ c → bit (eqb k c) ≡ 1
eq_bit k c e = ap bit (eq-eqb k c e)

-- they differ
pub ne_bit : (k c : ℕ) → k ≢ c → bit (eqb k c) ≡ 0
ne_bit k c n = ap bit (ne_eqb k c n)

-- a bit is at most 1
pub bit_le : (t : Bool) → bit t ≤ 1
bit_le true = omega arith
bit_le false = omega arith

-- ---- parts of a list
module _ {A : Type 0} where
  -- of two lists one after the other
  pub count_append : (t : A → Bool) (l m : List A) → count t (l ++ m) ≡ count t l + count t m
  unfolding count
  count_append t [] m = omega arith
  count_append t (y ∷ ys) m = omega (arith, count_append t ys m)

  -- of a list cut at a place
  pub count_split : (t : A → Bool) (n : ℕ) (l : List A) → count t (take n l) + count t (drop n l) ≡ count t l
  unfolding count
  count_split t zero l = omega arith
  count_split t (suc n) [] = refl
  count_split t (suc n) (x ∷ xs) = omega (arith, count_split t n xs)

  -- no test passes more often than there are elements
  pub count_le : (t : A → Bool) (l : List A) → count t l ≤ length l
  unfolding count
  count_le t [] = omega arith
  count_le t (x ∷ xs) = omega (arith, count_le t xs, bit_le (t x))

  -- one that always passes counts them
  pub count_all : (l : List A) → count (λ x. true) l ≡ length l
  unfolding count
  count_all [] = refl
  count_all (x ∷ xs) = omega (arith, count_all xs)

  -- ---- a place taken out
  -- what stands before it and what stands behind it
  pub without_parts : (i : ℕ) (l : List A) → remove_nth i l ≡ take i l ++ drop (suc i) l
  unfolding remove_nth
  without_parts zero [] = refl
  without_parts (suc i) [] = refl
  without_parts zero (x ∷ xs) = refl
  without_parts (suc i) (x ∷ xs) = ap (λ (r : List A). x ∷ r) (without_parts i xs)

  -- what was taken out counts on its own
  pub count_out : (t : A → Bool) (i : ℕ) (d : A) (l : List A) → i < length l → bit (t (get_or l i d)) + count t (remove_nth i l) ≡ count t l
  unfolding count remove_nth
  count_out t i d [] h = absurd (omega arith)
  count_out t zero d (x ∷ xs) h = refl
  count_out t (suc i) d (x ∷ xs) h = omega (arith, count_out t i d xs (le_of_suc-le-suc h))

  -- one less
  pub length_without : (i : ℕ) (l : List A) → i < length l → suc (length (remove_nth i l)) ≡ length l
  unfolding remove_nth
  length_without i [] h = absurd (omega arith)
  length_without zero (x ∷ xs) h = refl
  length_without (suc i) (x ∷ xs) h = ap suc (length_without i xs (le_of_suc-le-suc h))

  -- ---- another element at a place
  -- the new one counts for the old one
  pub count-set : (t : A → Bool) (l : List A) (i : ℕ) (v d : A) → i < length l → count t (set l i v) + bit (t (get_or l i d)) ≡ count t l + bit (t v)
  unfolding count
  count-set t [] i v d h = absurd (omega arith)
  count-set t (y ∷ ys) zero v d h = omega arith
  count-set t (y ∷ ys) (suc i) v d h = omega (arith, count-set t ys i v d (le_of_suc-le-suc h))

  -- ---- those that pass a test
  -- a test on them is both tests on all
  pub count-filter : (t u : A → Bool) (l : List A) → count t (filter u l) ≡ count (λ x. u x && t x) l
  unfolding count filter
  count-filter t u [] = refl
  count-filter t u (x ∷ xs) = go (u x) (count-filter t u xs)
    where
      go : (p : Bool) → count t (filter u xs) ≡ count (λ y. u y && t y) xs
          → count t (cond p (x ∷ filter u xs) (filter u xs)) ≡ bit (p && t x) + count (λ y. u y && t y) xs
      go true e = omega arith
      go false e = omega arith

  -- as many as pass it
  pub length-filter : (u : A → Bool) (l : List A) → length (filter u l) ≡ count u l
  unfolding count filter
  length-filter u [] = refl
  length-filter u (x ∷ xs) = go (u x) (length-filter u xs)
    where
      go : (p : Bool) → length (filter u xs) ≡ count u xs → length (cond p (x ∷ filter u xs) (filter u xs)) ≡ bit p + count u xs
      go true e = omega arith
      go false e = omega arith

-- ---- a test on what a function gives
module _ {A B : Type 0} where
  -- a test on what f gives is a test on the elements
  pub count-map : (t : B → Bool) (f : A → B) (l : List A) → count t (map f l) ≡ count (λ x. t (f x)) l
  unfolding count
  count-map t f [] = refl
  count-map t f (x ∷ xs) = omega (arith, count-map t f xs)

-- ---- where a number stands
-- what stands at a place is counted
pub stands : (x d : ℕ) (l : List ℕ) (i : ℕ) → i < length l → get_or l i d ≡ x → 1 ≤ count (eqb x) l
unfolding count
stands x d [] i h e = absurd (omega arith)
stands x d (y ∷ ys) zero h e = omega (arith, eq_bit x y (sym e))
stands x d (y ∷ ys) (suc i) h e = omega (arith, stands x d ys i (le_of_suc-le-suc h) e)

-- the place of one that stands in the list is within it
pub place_in : (x : ℕ) (l : List ℕ) → 1 ≤ count (eqb x) l → place_of x l < length l
unfolding count place_of
place_in x [] h = absurd (omega arith)
place_in x (y ∷ ys) h = elim (ℕ_discrete x y) [
  | yes e ↦ rw (eq-eqb x y e) (omega arith)
  | no n ↦ rw (ne_eqb x y n) (omega (arith, place_in x ys (omega (arith, ne_bit x y n))))
]

-- and it stands there
pub at_place : (x d : ℕ) (l : List ℕ) → 1 ≤ count (eqb x) l → get_or l (place_of x l) d ≡ x
unfolding count place_of
at_place x d [] h = absurd (omega arith)
at_place x d (y ∷ ys) h = elim (ℕ_discrete x y) [
  | yes e ↦ rw (eq-eqb x y e) (sym e)
  | no n ↦ rw (ne_eqb x y n) (at_place x d ys (omega (arith, ne_bit x y n)))
]

-- and nowhere else where it stands once
pub place_only : (x d : ℕ) (l : List ℕ) (i : ℕ) → count (eqb x) l ≤ 1 → i < length l → get_or l i d ≡ x → place_of x l ≡ i
unfolding count place_of
place_only x d [] i o h e = absurd (omega arith)
place_only x d (y ∷ ys) zero o h e = rw (eq-eqb x y (sym e))
place_only x d (y ∷ ys) (suc i) o h e = elim (ℕ_discrete x y) [
  | yes q ↦ absurd (omega (arith, eq_bit x y q, stands x d ys i (le_of_suc-le-suc h) e))
  | no n ↦ rw (ne_eqb x y n) (ap suc (place_only x d ys i (omega (arith, ne_bit x y n)) (le_of_suc-le-suc h) e))
]

-- one that does not stand in the list has the length for its place
pub no_place : (x : ℕ) (l : List ℕ) → count (eqb x) l ≡ 0 → place_of x l ≡ length l
unfolding count place_of
no_place x [] e = refl
no_place x (y ∷ ys) e = elim (ℕ_discrete x y) [
  | yes q ↦ absurd (omega (arith, eq_bit x y q))
  | no q ↦ rw (ne_eqb x y q) (ap suc (no_place x ys (omega (arith, ne_bit x y q))))
]

-- one passes a test where the count is not 0
pub some_count : (t : ℕ → Bool) (l : List ℕ) → any t l ≡ ltb 0 (count t l)
unfolding any count
some_count t [] = refl
some_count t (x ∷ xs) = go (t x) (some_count t xs)
  where
    go : (p : Bool) → any t xs ≡ ltb 0 (count t xs) → (p || any t xs) ≡ ltb 0 (bit p + count t xs)
    go true e = sym (lt-ltb 0 (1 + count t xs) (omega arith))
    go false e = let z : 0 + count t xs ≡ count t xs = omega arith in e ∙ ap (ltb 0) (sym z)

-- ---- lists that hold the same numbers
-- a list that holds each number at least as often passes every test at least as often
pub counts_le : (l m : List ℕ) → ((i : ℕ) → count (eqb i) l ≤ count (eqb i) m) → (t : ℕ → Bool) → count t l ≤ count t m
unfolding count
counts_le [] m f t = omega arith
counts_le (x ∷ xs) m f t =
    let p = place_of x m in
    let some : 1 ≤ count (eqb x) m = omega (arith, f x, eq_bit x x refl) in
    let h = place_in x m some in
    let e = at_place x 0 m some in
    let r : count t xs ≤ count t (remove_nth p m) = counts_le xs (remove_nth p m) (λ i. omega (arith, f i, rw e at (count_out (eqb i) p 0 m h))) t in
    omega (arith, rw e at (count_out t p 0 m h))

-- lists that hold each number as often hold the same numbers in some order
pub counts_permuted : (l m : List ℕ) → ((i : ℕ) → count (eqb i) m ≡ count (eqb i) l) → Permuted l m
counts_permuted l m f t = omega (arith, counts_le l m (λ i. omega (arith, f i)) t, counts_le m l (λ i. omega (arith, f i)) t)

count-not : (t : ℕ → Bool) (l : List ℕ) → count t l + count (λ x. not (t x)) l ≡ length l
unfolding count
count-not t [] = refl
count-not t (x ∷ xs) = go (t x) (count-not t xs)
  where
    go : (p : Bool) → count t xs + count (λ y. not (t y)) xs ≡ length xs → bit p + count t xs + (bit (not p) + count (λ y. not (t y)) xs) ≡ suc (length xs)
    go true e = omega arith
    go false e = omega arith

-- and so do lists of one length where one holds each number at least as often
pub counts_within : (l m : List ℕ) → ((i : ℕ) → count (eqb i) l ≤ count (eqb i) m) → length l ≡ length m → Permuted l m
counts_within l m f e t =
    omega (arith, counts_le l m f t, counts_le l m f (λ x. not (t x)), count-not t l, count-not t m)

-- the same numbers in some order are as many
pub permuted_length : (l m : List ℕ) → Permuted l m → length m ≡ length l
permuted_length l m f = sym (count_all m) ∙ f (λ x. true) ∙ count_all l

-- ---- numbers one after another
-- as many as asked for
pub length-from : (k n : ℕ) → length (from k n) ≡ n
unfolding from
length-from k zero = refl
length-from k (suc n) = ap suc (length-from (suc k) n)

both_bit : (u : ℕ → Bool) (i x : ℕ) → i ≡ x → bit (u x && eqb i x) ≡ bit (u i)
both_bit u i x e = rw (eq-eqb i x e, and_true (u x), e)

not_bit : (u : ℕ → Bool) (i x : ℕ) → i ≢ x → bit (u x && eqb i x) ≡ 0
not_bit u i x n = rw (ne_eqb i x n, and_false (u x))

none_before : (u : ℕ → Bool) (i k n : ℕ) → i < k → count (λ x. u x && eqb i x) (from k n) ≡ 0
unfolding count from
none_before u i k zero h = refl
none_before u i k (suc n) h = omega (arith, not_bit u i k (omega arith), none_before u i (suc k) n (omega arith))

none_behind : (u : ℕ → Bool) (i k n : ℕ) → k + n ≤ i → count (λ x. u x && eqb i x) (from k n) ≡ 0
unfolding count from
none_behind u i k zero h = refl
none_behind u i k (suc n) h = omega (arith, not_bit u i k (omega arith), none_behind u i (suc k) n (omega arith))

one_among : (u : ℕ → Bool) (i k n : ℕ) → k ≤ i → i < k + n → count (λ x. u x && eqb i x) (from k n) ≡ bit (u i)
unfolding count from
one_among u i k zero h g = absurd (omega arith)
one_among u i k (suc n) h g = elim (ℕ_discrete i k) [
  | yes e ↦ omega (arith, both_bit u i k e, none_before u i (suc k) n (omega arith))
  | no q ↦ omega (arith, not_bit u i k q, one_among u i (suc k) n (omega arith) (omega arith))
]

-- of the numbers below n, those that pass a test: each of them once
pub filter_within : (u : ℕ → Bool) (i n : ℕ) → i < n → count (eqb i) (filter u (from 0 n)) ≡ bit (u i)
filter_within u i n h = count-filter (eqb i) u (from 0 n) ∙ one_among u i 0 n (omega arith) (omega arith)

-- and no other
pub filter_beyond : (u : ℕ → Bool) (i n : ℕ) → n ≤ i → count (eqb i) (filter u (from 0 n)) ≡ 0
filter_beyond u i n h = count-filter (eqb i) u (from 0 n) ∙ none_behind u i 0 n (omega arith)
