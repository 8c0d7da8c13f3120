-- Different places of so many rows add up to as much as the numbers below their number only where they are these. That number is then the
-- lowest free place. Assumes nothing.
use mathlib.Core.Path.{◌≡◌, refl, sym, ap, ◌∙◌}
use mathlib.Core.Logic.{◌≢◌}
use mathlib.Core.Bool.{Bool, true, false, not, ◌||◌}
use mathlib.Core.List.{List}
use Prim.Native.Nat.{ℕ, zero, suc, ◌+◌, ◌-◌, ◌*◌, ◌≤◌, ◌<◌, min}
use native.Mathlib.Numerals.{add-one}
use native.Mathlib.Decide.{ℕ_discrete}
use native.Mathlib.Omega.{arith}
use lib.Dec.{eqb}
use borrow.Author.Tests.{ne_eqb}
use Rattle.model.specs.Bep3.{sum_to}
use Rattle.model.specs.Lists.{any, member}
use Rattle.memory_records.specs.Records.{first_from}
use Rattle.memory_records.specs.Rows.{row_at}
use Rattle.memory_layout.specs.Tables.{tabulate}
use Rattle.memory_places.specs.Places.{places_taken, PlacesApart, places_sum, lowest_free}
use Rattle.memory_places.proofs.PlaceLaws.{from_here, from_next, none_of}

-- ---- no member of a table
absent_of : (n : ℕ) (f : ℕ → ℕ) (x : ℕ) → ((k : ℕ) → k < n → f k ≢ x) → member x (tabulate n f) ≡ false
unfolding member any tabulate
absent_of zero f x h = refl
absent_of (suc n) f x h =
    ap (λ (t : Bool). t || any (eqb x) (tabulate n (λ j. f (suc j)))) (ne_eqb x (f 0) (λ e. h 0 (omega arith) (sym e)))
    ∙ absent_of n (λ j. f (suc j)) x (λ k l. h (suc k) (omega arith))

-- ---- an upward search that stops at p
first_at : (test : ℕ → Bool) (t k p : ℕ) → k ≤ p → p < k + t → ((q : ℕ) → k ≤ q → q < p → test q ≡ false) → test p ≡ true
    → first_from test t k ≡ p
first_at test zero k p l m f e = absurd (omega arith)
first_at test (suc t) k p l m f e = elim (ℕ_discrete k p) [
  | yes q ↦ from_here test t k (ap test q ∙ e) ∙ q
  | no n ↦
      from_next test t k (f k (omega arith) (omega arith))
      ∙ first_at test t (suc k) p (omega arith) (omega arith) (λ q a b. f q (omega arith) b) e
]

-- ---- sums
-- of sums
sum_both : (n : ℕ) (f g h : ℕ → ℕ) → ((k : ℕ) → h k ≡ f k + g k) → sum_to n h ≡ sum_to n f + sum_to n g
unfolding sum_to
sum_both zero f g h e = refl
sum_both (suc n) f g h e = omega (arith, sum_both n f g h e, e n)

-- of numbers that are small
sum_small : (n m : ℕ) (f : ℕ → ℕ) → ((k : ℕ) → k < n → f k ≤ m) → sum_to n f ≤ n * m
unfolding sum_to
sum_small zero m f h = omega arith
sum_small (suc n) m f h = omega (arith, sum_small n m f (λ k l. h k (omega arith)), h n (omega arith))

-- of numbers that are large in pairs
sum_large : (n m : ℕ) (f g : ℕ → ℕ) → ((k : ℕ) → m ≤ f k + g k) → n * m ≤ sum_to n f + sum_to n g
unfolding sum_to
sum_large zero m f g h = omega arith
sum_large (suc n) m f g h = omega (arith, sum_large n m f g h, h n)

-- of numbers up to 1, as large as can be
sum_full : (n : ℕ) (f : ℕ → ℕ) → ((k : ℕ) → f k ≤ 1) → n ≤ sum_to n f → (k : ℕ) → k < n → f k ≡ 1
unfolding sum_to
sum_full zero f h e k l = absurd (omega arith)
sum_full (suc n) f h e k l = elim (ℕ_discrete k n) [
  | yes q ↦ ap f q ∙ omega (arith, sum_small n 1 f (λ j m. h j), h n)
  | no m ↦ sum_full n f h (omega (arith, h n)) k (omega arith)
]

-- ---- n different numbers
module _ (n : ℕ) (f : ℕ → ℕ) (apart : (k l : ℕ) → k < n → l < n → f k ≡ f l → k ≡ l) where
  -- how far number k is below m
  abbrev under : (m k : ℕ) → ℕ
  under m k = m - f k

  -- 1 where it is below m
  abbrev is_below : (m k : ℕ) → ℕ
  is_below m k = min 1 (m - f k)

  -- 1 where it is q
  abbrev is : (q k : ℕ) → ℕ
  is q k = is_below (suc q) k - is_below q k

  not_once : (q t : ℕ) → ((k : ℕ) → k < t → f k ≢ q) → sum_to t (is q) ≡ 0
  not_once q t h = omega (arith, sum_small t 0 (is q) (λ k l. let d = h k l in omega arith))

  -- q is at most one of them
  once : (q t : ℕ) → t ≤ n → sum_to t (is q) ≤ 1
  unfolding sum_to
  once q zero h = omega arith
  once q (suc t) h = elim (ℕ_discrete (f t) q) [
    | yes e ↦ omega (arith, not_once q t (λ k l d. omega (arith, apart k t (omega arith) (omega arith) (d ∙ sym e))))
    | no e ↦ omega (arith, once q t (omega arith))
  ]

  more_below : (m : ℕ) → sum_to n (is_below (suc m)) ≡ sum_to n (is_below m) + sum_to n (is m)
  more_below m = sum_both n (is_below m) (is m) (is_below (suc m)) (λ k. omega arith)

  -- at most m of them are below m
  few_below : (m : ℕ) → sum_to n (is_below m) ≤ m
  few_below zero = omega (arith, sum_small n 0 (is_below 0) (λ k l. omega arith))
  few_below (suc m) = omega (arith, more_below m, few_below m, once m n (omega arith))

  -- where m are, each number below m is one of them
  each_below : (m : ℕ) → m ≤ sum_to n (is_below m) → (q : ℕ) → q < m → sum_to n (is q) ≡ 1
  each_below zero h q l = absurd (omega arith)
  each_below (suc m) h q l = elim (ℕ_discrete q m) [
    | yes e ↦ ap (λ (p : ℕ). sum_to n (is p)) e ∙ omega (arith, more_below m, few_below m, once m n (omega arith))
    | no d ↦ each_below m (omega (arith, more_below m, once m n (omega arith))) q (omega arith)
  ]

  more_under : (m : ℕ) → sum_to n (under (suc m)) ≡ sum_to n (under m) + sum_to n (is_below (suc m))
  more_under m = sum_both n (under m) (is_below (suc m)) (under (suc m)) (λ k. omega arith)

  -- they are below m by at most 1 + .. + m in all
  little_under : (m : ℕ) → 2 * sum_to n (under m) ≤ m * m + m
  little_under zero = omega (arith, sum_small n 0 (under 0) (λ k l. omega arith))
  little_under (suc m) = omega (arith, more_under m, little_under m, few_below (suc m))

  -- where they are by that, m of them are below m
  many_below : (m : ℕ) → m * m + m ≤ 2 * sum_to n (under m) → m ≤ sum_to n (is_below m)
  many_below zero h = omega arith
  many_below (suc m) h = omega (arith, more_under m, little_under m)

  -- whose sum is 0 + .. + (n - 1)
  module _ (sum : 2 * sum_to n f + n ≡ n * n) where
    so_many : n ≤ sum_to n (is_below n)
    so_many = many_below n (omega (arith, sum_large n n (under n) f (λ k. omega arith)))

    all_below : (k : ℕ) → k < n → f k < n
    all_below k l = omega (arith, sum_full n (is_below n) (λ j. omega arith) so_many k l)

    all_taken : (q : ℕ) → q < n → member q (tabulate n f) ≡ true
    all_taken q l = go (member q (tabulate n f)) refl
      where
        go : (t : Bool) → member q (tabulate n f) ≡ t → member q (tabulate n f) ≡ true
        go true e = e
        go false e = absurd (omega (arith, each_below n so_many q l, not_once q n (none_of n f q e)))

-- ---- of rows
pub sum_start : (rows : List ℕ) → 0 ≡ places_sum 0 rows
unfolding places_sum sum_to
sum_start rows = refl

pub sum_more : (k : ℕ) (rows : List ℕ) → places_sum k rows + (row_at rows k).info_idx ≡ places_sum (k + 1) rows
unfolding places_sum sum_to
sum_more k rows = rw add-one refl

pub sum_end : (k live : ℕ) (rows : List ℕ) → k ≡ live → places_sum k rows ≡ places_sum live rows
sum_end k live rows e = ap (λ (n : ℕ). places_sum n rows) e

-- the lowest free place
pub low_lowest : (places live : ℕ) (rows : List ℕ) → live < places → PlacesApart live rows
    → 2 * places_sum live rows + live ≡ live * live → live ≡ lowest_free places (places_taken live rows)
unfolding lowest_free places_taken places_sum
low_lowest places live rows h apart sum =
    let f : ℕ → ℕ = λ k. (row_at rows k).info_idx in
    sym (first_at (λ p. not (member p (tabulate live f))) places 0 live (omega arith) (omega arith)
    (λ q a b. ap not (all_taken live f apart sum q b))
    (ap not (absent_of live f live (λ k l z. omega (arith, all_below live f apart sum k l, z)))))
