-- Lists of numbers below a bound, filtered, mapped and cut. Assumes nothing.
use mathlib.Core.Path.{◌≡◌, refl, ap}
use mathlib.Core.Bool.{Bool, true, false, cond, ◌&&◌}
use mathlib.Core.List.{List, [], ◌∷◌}
use Prim.Native.Nat.{ℕ, zero, suc, ◌+◌, ◌-◌, ◌≤◌, ◌<◌}
use native.Mathlib.Nat.{not-suc-le-zero, le_of_suc-le-suc}
use native.Mathlib.Omega.{arith}
use lib.ListN.{length, get_or, set, take}
use Rattle.model.specs.Lists.{from, each, filter}

-- ---- filtered
module _ (t u : ℕ → Bool) where
  -- tests that agree on the numbers from k on
  pub filter_below : (k n : ℕ) → ((j : ℕ) → k ≤ j → j < k + n → t j ≡ u j) → filter t (from k n) ≡ filter u (from k n)
  unfolding filter from
  filter_below k zero h = refl
  filter_below k (suc n) h =
      λ m. cond (h k (omega arith) (omega arith) m) (k ∷ filter_below (suc k) n (λ j a b. h j (omega arith) (omega arith)) m)
      (filter_below (suc k) n (λ j a b. h j (omega arith) (omega arith)) m)

  -- one test after another
  pub filter_both : (l : List ℕ) → filter u (filter t l) ≡ filter (λ k. t k && u k) l
  unfolding filter
  filter_both [] = refl
  filter_both (x ∷ xs) = go (t x) (filter_both xs)
    where
      go : (b : Bool) → filter u (filter t xs) ≡ filter (λ k. t k && u k) xs
          → filter u (cond b (x ∷ filter t xs) (filter t xs))
          ≡ cond (b && u x) (x ∷ filter (λ k. t k && u k) xs) (filter (λ k. t k && u k) xs)
      go true e = ap (λ (l : List ℕ). cond (u x) (x ∷ l) l) e
      go false e = e

-- what is left is below the bound
pub filter_low : (t : ℕ → Bool) (k n j : ℕ) → j < length (filter t (from k n)) → get_or (filter t (from k n)) j 0 < k + n
unfolding filter from
filter_low t k zero j h = absurd (not-suc-le-zero h)
filter_low t k (suc n) j h = go (t k) j h (λ i l. filter_low t (suc k) n i l)
  where
    go : (b : Bool) (i : ℕ) → i < length (cond b (k ∷ filter t (from (suc k) n)) (filter t (from (suc k) n)))
        → ((m : ℕ) → m < length (filter t (from (suc k) n)) → get_or (filter t (from (suc k) n)) m 0 < suc k + n)
        → get_or (cond b (k ∷ filter t (from (suc k) n)) (filter t (from (suc k) n))) i 0 < k + suc n
    go true zero l f = omega arith
    go true (suc i) l f = let x = f i (le_of_suc-le-suc l) in omega arith
    go false i l f = let x = f i l in omega arith

-- ---- mapped
module _ {A : Type 0} (f : ℕ → A) where
  pub each-filter : (t : A → Bool) (l : List ℕ) → each f (filter (λ k. t (f k)) l) ≡ filter t (each f l)
  unfolding each filter
  each-filter t [] = refl
  each-filter t (x ∷ xs) = go (t (f x)) (each-filter t xs)
    where
      go : (b : Bool) → each f (filter (λ k. t (f k)) xs) ≡ filter t (each f xs)
          → each f (cond b (x ∷ filter (λ k. t (f k)) xs) (filter (λ k. t (f k)) xs))
          ≡ cond b (f x ∷ filter t (each f xs)) (filter t (each f xs))
      go true e = ap (λ (l : List A). f x ∷ l) e
      go false e = e

  pub each-take : (n : ℕ) (l : List ℕ) → each f (take n l) ≡ take n (each f l)
  unfolding each
  each-take zero l = refl
  each-take (suc n) [] = refl
  each-take (suc n) (x ∷ xs) = ap (λ (l : List A). f x ∷ l) (each-take n xs)

  pub each-set : (l : List ℕ) (k x : ℕ) → each f (set l k x) ≡ set (each f l) k (f x)
  unfolding each
  each-set [] k x = refl
  each-set (y ∷ ys) zero x = refl
  each-set (y ∷ ys) (suc k) x = ap (λ (l : List A). f y ∷ l) (each-set ys k x)

  pub each-length : (l : List ℕ) → length (each f l) ≡ length l
  unfolding each
  each-length [] = refl
  each-length (x ∷ xs) = ap suc (each-length xs)

  pub each_at : (l : List ℕ) (k : ℕ) (d : A) → k < length l → get_or (each f l) k d ≡ f (get_or l k 0)
  unfolding each
  each_at [] k d h = absurd (not-suc-le-zero h)
  each_at (x ∷ xs) zero d h = refl
  each_at (x ∷ xs) (suc k) d h = each_at xs k d (le_of_suc-le-suc h)
