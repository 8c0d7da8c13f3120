-- Facts of the definitions: the first place that passes a test, and a search that starts behind records of lower pieces. Assumes nothing.
use mathlib.Core.Path.{◌≡◌, ap, subst, ◌∙◌}
use Prim.Native.Nat.{ℕ, zero, suc, ◌+◌, ◌-◌, ◌<◌, ◌≤◌}
use mathlib.Core.Bool.{Bool, true, false}
use native.Mathlib.Omega.{arith}
use native.Mathlib.Nat.{zero-add}
use mathlib.Core.List.{List}
use lib.ListN.{get_or}
use lib.Dec.{ltb, eqb, ltb→lt, eqb→eq}
use Rattle.memory_records.specs.declared.record.DownloadingPiece.{DownloadingPiece}
use Rattle.memory_records.specs.Records.{no_record, place_of, first_from, above_from, seek_from}
use Rattle.memory_records.proofs.laws.SearchLaws.{fails}
use Rattle.memory_search.specs.Skips.{Skipped}

chosen : (b : Bool) (k m t : ℕ) → m ≤ suc k + t → place_of b k m ≤ k + suc t
chosen true k m t h = omega arith
chosen false k m t h = omega (arith, h)

-- a search among n that comes past place k
pub step_on : (test : ℕ → Bool) (n k : ℕ) → k < n → test k ≡ false → first_from test (n - k) k ≡ first_from test (n - (k + 1)) (k + 1)
step_on test n k h e =
    ap (λ (t : ℕ). first_from test t k) left
    ∙ ap (λ (b : Bool). place_of b k (first_from test (n - (k + 1)) (suc k))) e
    ∙ ap (first_from test (n - (k + 1))) place
  where
    left : n - k ≡ suc (n - (k + 1))
    left = omega (arith, h)

    place : suc k ≡ k + 1
    place = omega arith

-- it stops among them or right behind
pub first_bound : (test : ℕ → Bool) (t k : ℕ) → first_from test t k ≤ k + t
first_bound test zero k = omega arith
first_bound test (suc t) k = chosen (test k) k (first_from test t (suc k)) t (first_bound test t (suc k))

pub first_within : (test : ℕ → Bool) (n : ℕ) → first_from test n 0 ≤ n
first_within test n = subst (λ (m : ℕ). first_from test n 0 ≤ m) (zero-add n) (first_bound test n 0)

-- what does not pass may be left out in front
pub passed_over : (test : ℕ → Bool) (m t k : ℕ) → ((j : ℕ) → j < k + m → test j ≡ false)
    → first_from test (m + t) k ≡ first_from test t (k + m)
passed_over test zero t k h = ap (λ (n : ℕ). first_from test n k) same ∙ ap (first_from test t) place
  where
    same : 0 + t ≡ t
    same = omega arith

    place : k ≡ k + 0
    place = omega arith
passed_over test (suc m) t k h =
    ap (λ (n : ℕ). first_from test n k) more
    ∙ ap (λ (b : Bool). place_of b k (first_from test (m + t) (suc k))) (h k (omega arith))
    ∙ passed_over test m t (suc k) (λ j l. h j (omega arith))
    ∙ ap (first_from test t) place
  where
    more : suc m + t ≡ suc (m + t)
    more = omega arith

    place : suc k + m ≡ k + suc m
    place = omega arith

pub passed_front : (test : ℕ → Bool) (n r : ℕ) → r ≤ n → ((j : ℕ) → j < r → test j ≡ false) → first_from test n 0 ≡ first_from test (n - r) r
passed_front test n r l h =
    ap (λ (m : ℕ). first_from test m 0) whole
    ∙ passed_over test r (n - r) 0 (λ j k. h j (omega (arith, k)))
    ∙ ap (first_from test (n - r)) place
  where
    whole : n ≡ r + (n - r)
    whole = omega (arith, l)

    place : 0 + r ≡ r
    place = omega arith

-- records of lower pieces, for both searches
pub skips_above : (n p : ℕ) (ys : List DownloadingPiece) (k : ℕ) → Skipped n p ys k → above_from n 0 ys p ≡ above_from (n - k) k ys p
skips_above n p ys k h =
    passed_front (λ i. ltb p (get_or ys i no_record).index) n k h.0 (λ j l.
    fails (ltb p (get_or ys j no_record).index) (λ a. above j (h.1 j l) (ltb→lt p (get_or ys j no_record).index a)))
  where
    above : (j : ℕ) → (get_or ys j no_record).index < p → p < (get_or ys j no_record).index → ⊥
    above j a b = omega (arith, a, b)

pub skips_seek : (n p : ℕ) (ys : List DownloadingPiece) (k : ℕ) → Skipped n p ys k → seek_from n 0 ys p ≡ seek_from (n - k) k ys p
skips_seek n p ys k h =
    passed_front (λ i. eqb (get_or ys i no_record).index p) n k h.0 (λ j l.
    fails (eqb (get_or ys j no_record).index p) (λ a. other j (h.1 j l) (eqb→eq (get_or ys j no_record).index p a)))
  where
    other : (j : ℕ) → (get_or ys j no_record).index < p → (get_or ys j no_record).index ≡ p → ⊥
    other j a b = omega (arith, a, b)
