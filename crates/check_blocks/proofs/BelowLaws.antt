-- Tests on the numbers below one: one number more, one that fails, and the same tests on lists. Assumes nothing.
use mathlib.Core.Path.{◌≡◌, refl, sym, ap, ap₂, ◌∙◌}
use mathlib.Core.Logic.{inl, inr}
use mathlib.Core.Bool.{Bool, true, false, ◌&&◌, ◌||◌}
use mathlib.Core.List.{[], ◌∷◌}
use Prim.Native.Nat.{ℕ, zero, suc, ◌+◌, ◌≤◌, ◌<◌}
use native.Mathlib.Numerals.{add-one}
use native.Mathlib.Decide.{ℕ_discrete}
use native.Mathlib.Omega.{arith}
use lib.Dec.{eqb}
use borrow.Author.Tests.{eq-eqb, ne_eqb}
use Rattle.model.specs.Lists.{bit, count, every, from}
use Rattle.model.proofs.base.Truths.{both_true, true_both, true_or_false, not_both}
use Rattle.model.proofs.base.Counts.{and_false, count_append}
use Rattle.memory_layout.specs.Tables.{tabulate}
use Rattle.memory_layout.proofs.TableLaws.{tabulate_more}
use Rattle.check_blocks.specs.Below.{all_below, count_below}

module _ (t : ℕ → Bool) where
  -- ---- all pass
  pub all_more : (k : ℕ) → all_below t (k + 1) ≡ (all_below t k && t k)
  unfolding all_below
  all_more k = rw add-one

  pub all_next : (k : ℕ) → all_below t k ≡ true → t k ≡ true → all_below t (k + 1) ≡ true
  unfolding all_below
  all_next k h g = rw (add-one, h, g)

  -- one that fails
  pub all_false : (k n : ℕ) → k < n → t k ≡ false → all_below t n ≡ false
  unfolding all_below
  all_false k zero l h = absurd (omega arith)
  all_false k (suc n) l h = elim (ℕ_discrete k n) [
    | yes e ↦ rw (← e, h, and_false)
    | no m ↦ rw (all_false k n (omega arith) h)
  ]

  pub all_at : (n : ℕ) → all_below t n ≡ true → (k : ℕ) → k < n → t k ≡ true
  unfolding all_below
  all_at zero h k l = absurd (omega arith)
  all_at (suc n) h k l =
      let b = both_true (all_below t n) (t n) h in
      elim (ℕ_discrete k n) [ yes e ↦ rw e b.1 | no m ↦ all_at n b.0 k (omega arith) ]

  pub all_from : (n : ℕ) → ((k : ℕ) → k < n → t k ≡ true) → all_below t n ≡ true
  unfolding all_below
  all_from zero h = refl
  all_from (suc n) h = true_both (all_below t n) (t n) (all_from n (λ k l. h k (omega arith))) (h n (omega arith))

  -- ---- how many pass
  pub count_next : (k : ℕ) → count_below t (k + 1) ≡ count_below t k + bit (t k)
  unfolding count_below
  count_next k = rw add-one

  pub count_few : (n : ℕ) → count_below t n ≤ n
  unfolding count_below
  count_few zero = omega arith
  count_few (suc n) = go (t n) (count_few n)
    where
      go : (p : Bool) → count_below t n ≤ n → count_below t n + bit p ≤ suc n
      go true e = omega arith
      go false e = omega arith

  pub count_none : (n : ℕ) → ((k : ℕ) → k < n → t k ≡ false) → count_below t n ≡ 0
  unfolding count_below
  count_none zero h = refl
  count_none (suc n) h = rw (count_none n (λ k l. h k (omega arith)), h n (omega arith))

-- ---- two tests
module _ (t u : ℕ → Bool) where
  pub all_same : (n : ℕ) → ((k : ℕ) → k < n → t k ≡ u k) → all_below t n ≡ all_below u n
  unfolding all_below
  all_same zero h = refl
  all_same (suc n) h = ap₂ (λ (x y : Bool). x && y) (all_same n (λ k l. h k (omega arith))) (h n (omega arith))

  pub count_same : (n : ℕ) → ((k : ℕ) → k < n → t k ≡ u k) → count_below t n ≡ count_below u n
  unfolding count_below
  count_same zero h = refl
  count_same (suc n) h = ap₂ (λ (x : ℕ) (y : Bool). x + bit y) (count_same n (λ k l. h k (omega arith))) (h n (omega arith))

  -- one passes where the other does
  pub count_le : (n : ℕ) → ((k : ℕ) → k < n → t k ≡ true → u k ≡ true) → count_below t n ≤ count_below u n
  unfolding count_below
  count_le zero h = omega arith
  count_le (suc n) h =
      let r = count_le n (λ k l. h k (omega arith)) in
      elim (true_or_false (t n)) [
        | inl e ↦ rw (e, h n (omega arith) e) (omega arith)
        | inr e ↦ rw e (omega arith)
      ]

  -- and as often: then it is the same test
  pub count_tight : (n : ℕ) → ((k : ℕ) → k < n → t k ≡ true → u k ≡ true) → count_below t n ≡ count_below u n → (k : ℕ) → k < n → u k ≡ true
      → t k ≡ true
  unfolding count_below
  count_tight zero h e k l g = absurd (omega arith)
  count_tight (suc n) h e k l g =
      let r = count_le n (λ i m. h i (omega arith)) in
      elim (true_or_false (t n)) [
        | inl q ↦ (
            let p = h n (omega arith) q in
            let same : count_below t n ≡ count_below u n = omega (arith, rw (q, p) at e) in
            elim (ℕ_discrete k n) [ yes i ↦ rw i q | no i ↦ count_tight n (λ j m. h j (omega arith)) same k (omega arith) g ]
            )
        | inr q ↦ elim (true_or_false (u n)) [
          | inl p ↦ absurd (omega (arith, r, rw (q, p) at e))
          | inr p ↦ (
              let same : count_below t n ≡ count_below u n = omega (arith, rw (q, p) at e) in
              elim (ℕ_discrete k n) [
                | yes i ↦ absurd (not_both (u n) (rw i at g) p)
                | no i ↦ count_tight n (λ j m. h j (omega arith)) same k (omega arith) g
              ]
              )
        ]
      ]

-- of two tests that never both pass
pub count_either : (t u : ℕ → Bool) (n : ℕ) → ((k : ℕ) → k < n → t k ≡ true → u k ≡ false) → count_below (λ k. t k || u k) n
    ≡ count_below t n + count_below u n
unfolding count_below
count_either t u zero h = refl
count_either t u (suc n) h =
    let r = count_either t u n (λ k l. h k (omega arith)) in
    elim (true_or_false (t n)) [
      | inl e ↦ rw (e, h n (omega arith) e) (omega arith)
      | inr e ↦ rw e (omega arith)
    ]

pub count_one : (p n : ℕ) → p < n → count_below (eqb p) n ≡ 1
unfolding count_below
count_one p zero h = absurd (omega arith)
count_one p (suc n) h = elim (ℕ_discrete p n) [
  | yes e ↦ rw (eq-eqb p n e, count_none (eqb p) n (λ k l. ne_eqb p k (omega arith)))
  | no m ↦ rw (ne_eqb p n m) (omega (arith, count_one p n (omega arith)))
]

-- ---- the same on lists
pub count_tab : {A : Type 0} (t : A → Bool) (f : ℕ → A) (n : ℕ) → count t (tabulate n f) ≡ count_below (λ k. t (f k)) n
unfolding count count_below tabulate
count_tab t f zero = refl
count_tab t f (suc n) =
    ap (count t) (tabulate_more n f) ∙ count_append t (tabulate n f) (f n ∷ []) ∙ omega (arith, count_tab t f n)

every-from_at : (t : ℕ → Bool) (j n : ℕ) → every t (from j n) ≡ true → (k : ℕ) → k < n → t (j + k) ≡ true
unfolding every from
every-from_at t j zero h k l = absurd (omega arith)
every-from_at t j (suc n) h zero l =
    let e : j ≡ j + 0 = omega arith in rw (← e) (both_true (t j) (every t (from (suc j) n)) h).0
every-from_at t j (suc n) h (suc k) l =
    let e : suc j + k ≡ j + suc k = omega arith in
    rw e at (every-from_at t (suc j) n (both_true (t j) (every t (from (suc j) n)) h).1 k (omega arith))

every-from_all : (t : ℕ → Bool) (j n : ℕ) → ((k : ℕ) → k < n → t (j + k) ≡ true) → every t (from j n) ≡ true
unfolding every from
every-from_all t j zero h = refl
every-from_all t j (suc n) h =
    true_both (t j) (every t (from (suc j) n)) (let e : j + 0 ≡ j = omega arith in rw e at (h zero (omega arith)))
    (every-from_all t (suc j) n (λ k l.
    let e : j + suc k ≡ suc j + k = omega arith in rw e at (h (suc k) (omega arith))))

pub every_at : (t : ℕ → Bool) (n : ℕ) → every t (from 0 n) ≡ true → (k : ℕ) → k < n → t k ≡ true
every_at t n h k l = let e : 0 + k ≡ k = omega arith in rw e at (every-from_at t 0 n h k l)

pub every_all : (t : ℕ → Bool) (n : ℕ) → ((k : ℕ) → k < n → t k ≡ true) → every t (from 0 n) ≡ true
every_all t n h = every-from_all t 0 n (λ k l. let e : k ≡ 0 + k = omega arith in rw e at (h k l))

-- the elements of a table
module _ {A : Type 0} (t : A → Bool) where
  pub every_tab : (n : ℕ) (f : ℕ → A) → ((k : ℕ) → k < n → t (f k) ≡ true) → every t (tabulate n f) ≡ true
  unfolding every tabulate
  every_tab zero f h = refl
  every_tab (suc n) f h =
      true_both (t (f zero)) (every t (tabulate n (λ k. f (suc k)))) (h zero (omega arith))
      (every_tab n (λ k. f (suc k)) (λ k l. h (suc k) (omega arith)))

  pub tab_every : (n : ℕ) (f : ℕ → A) → every t (tabulate n f) ≡ true → (k : ℕ) → k < n → t (f k) ≡ true
  unfolding every tabulate
  tab_every zero f h k l = absurd (omega arith)
  tab_every (suc n) f h zero l = (both_true (t (f zero)) (every t (tabulate n (λ k. f (suc k)))) h).0
  tab_every (suc n) f h (suc k) l =
      tab_every n (λ k. f (suc k)) (both_true (t (f zero)) (every t (tabulate n (λ k. f (suc k)))) h).1 k (omega arith)

-- all below a number, and every one of the list of them
pub below_every : (t : ℕ → Bool) (n : ℕ) → all_below t n ≡ every t (from 0 n)
below_every t n = go (all_below t n) (every t (from 0 n)) refl refl
  where
    go : (a b : Bool) → all_below t n ≡ a → every t (from 0 n) ≡ b → a ≡ b
    go true b p q = sym (every_all t n (all_at t n p)) ∙ q
    go false true p q = sym p ∙ all_from t n (every_at t n q)
    go false false p q = refl
