-- A pass over rows that joins their tests and notes the rank of each: one turn of it. Tests on each number of a range. Assumes nothing.
use mathlib.Core.Path.{◌≡◌, refl, sym, ap, ap₂, ◌∙◌}
use mathlib.Core.Bool.{Bool, true, false, ◌&&◌, and-true, and-false, and_assoc}
use mathlib.Core.List.{List, [], ◌∷◌}
use Prim.Native.Nat.{ℕ, zero, suc, ◌+◌, ◌-◌, ◌≤◌, ◌<◌}
use native.Mathlib.Decide.{ℕ_discrete}
use native.Mathlib.Omega.{arith}
use lib.ListN.{length, get_or, set, length-set}
use lib.Seq.{get_or-set_same, get_or-set_other}
use Rattle.model.specs.Lists.{every, from}
use Rattle.model.proofs.base.Truths.{both_true}
use Rattle.check_pieces.specs.Rows.{Passed}

-- ---- tests on each number of a range
-- those that pass, one by one
pub every-from : (f : ℕ → Bool) (k n : ℕ) → every f (from k n) ≡ true → (i : ℕ) → k ≤ i → i < k + n → f i ≡ true
unfolding every from
every-from f k zero h i l u = absurd (omega arith)
every-from f k (suc n) h i l u =
    let a = both_true (f k) (every f (from (suc k) n)) h in
    elim (ℕ_discrete i k) [ yes q ↦ rw q a.0 | no q ↦ every-from f (suc k) n a.1 i (omega arith) (omega arith) ]

-- all that pass
pub every-true : (f : ℕ → Bool) (k n : ℕ) → ((i : ℕ) → k ≤ i → i < k + n → f i ≡ true) → every f (from k n) ≡ true
unfolding every from
every-true f k zero h = refl
every-true f k (suc n) h = rw (h k (omega arith) (omega arith)) (every-true f (suc k) n (λ i l u. h i (omega arith) (omega arith)))

-- equal on the range
pub every_same : (f g : ℕ → Bool) (k n : ℕ) → ((i : ℕ) → k ≤ i → i < k + n → f i ≡ g i) → every f (from k n) ≡ every g (from k n)
unfolding every from
every_same f g k zero h = refl
every_same f g k (suc n) h =
    ap₂ ◌&&◌ (h k (omega arith) (omega arith)) (every_same f g (suc k) n (λ i l u. h i (omega arith) (omega arith)))

four : (a l b m : Bool) → ((a && l) && (b && m)) ≡ ((a && b) && (l && m))
four true l true m = refl
four true l false m = and-false l
four false l b m = refl

-- two tests on each are one
pub every_both : (f g : ℕ → Bool) (l : List ℕ) → (every f l && every g l) ≡ every (λ x. f x && g x) l
unfolding every
every_both f g [] = refl
every_both f g (x ∷ xs) =
    four (f x) (every f xs) (g x) (every g xs) ∙ ap (λ (t : Bool). (f x && g x) && t) (every_both f g xs)

-- tests that agree but for the last number, where the one asks t as well
pub last_apart : (f g : ℕ → Bool) (t : Bool) (k m l : ℕ) → k + m ≡ l → ((i : ℕ) → i < l → f i ≡ g i) → f l ≡ (g l && t)
    → every f (from k (suc m)) ≡ (every g (from k (suc m)) && t)
unfolding every from
last_apart f g t k zero l q h e =
    let z : k ≡ l = omega arith in
    rw (z, and-true (f l), and-true (g l)) e
last_apart f g t k (suc m) l q h e =
    rw (h k (omega arith), last_apart f g t (suc k) m l (omega arith) h e) (sym (and_assoc (g k) (every g (from (suc k) (suc m))) t))

-- one more in front, and none left
module _ (f : ℕ → Bool) (i n : ℕ) where
  pub every_next : i < n → every f (from i (n - i)) ≡ (f i && every f (from (i + 1) (n - (i + 1))))
  unfolding every from
  every_next h =
      let e : n - i ≡ suc (n - (i + 1)) = omega arith in
      let g : suc i ≡ i + 1 = omega arith in
      ap (λ (k : ℕ). every f (from i k)) e ∙ ap (λ (k : ℕ). f i && every f (from k (n - (i + 1)))) g

  pub every_end : n ≤ i → every f (from i (n - i)) ≡ true
  unfolding every from
  every_end h = let e : n - i ≡ 0 = omega arith in ap (λ (k : ℕ). every f (from i k)) e

pub every_start : (f : ℕ → Bool) (n : ℕ) → every f (from 0 (n - 0)) ≡ every f (from 0 n)
every_start f n = let e : n - 0 ≡ n = omega arith in ap (λ (k : ℕ). every f (from 0 k)) e

-- ---- the pass
-- whether all so far passed and what is left decide, and a row so far that passes has its rank; of w ranks
pub record Passing (test : ℕ → Bool) (rank : ℕ → ℕ) (n w : ℕ) (ranks : List ℕ) (ok : Bool) (i : ℕ) : Type 0 where
  pub within : i ≤ n
  pub left : (ok && every test (from i (n - i))) ≡ every test (from 0 n)
  pub each : (j : ℕ) → j < i → test j ≡ true → get_or ranks j 0 ≡ rank j
  pub long : n ≤ w
  pub wide : length ranks ≡ w

module _ (test : ℕ → Bool) (rank : ℕ → ℕ) (n : ℕ) where
  pub passing_start : (ranks : List ℕ) → n ≤ length ranks → (ok : Bool) → ok ≡ true → Passing test rank n (length ranks) ranks ok 0
  passing_start ranks l ok e =
      record { within = omega arith; left = rw e (every_start test n); each = λ j h. absurd (omega arith); long = l; wide = refl }

  module _ (w : ℕ) (ranks : List ℕ) (ok : Bool) (i : ℕ) (p : Passing test rank n w ranks ok i) where
    pub row_passed : i < n → (next : Bool) (r : ℕ) → next ≡ (ok && test i) → (test i ≡ true → r ≡ rank i)
        → Passing test rank n w (set ranks i r) next (i + 1)
    row_passed h next r ex er = record {
      within = omega arith;
      left =
          rw ex (and_assoc ok (test i) (every test (from (i + 1) (n - (i + 1)))))
          ∙ ap (λ (t : Bool). ok && t) (sym (every_next test i n h)) ∙ p.left;
      each = λ j l t. elim (ℕ_discrete j i) [
        | yes q ↦ rw q (get_or-set_same ranks i r 0 (omega (arith, p.long, p.wide)) ∙ er (rw q at t))
        | no q ↦ get_or-set_other ranks i j r 0 q ∙ p.each j (omega arith) t
      ];
      long = p.long;
      wide = length-set ranks i r ∙ p.wide;
    }

    pub rows_end : n ≤ i → (t : Bool) → t ≡ ok → Passed test rank n t ranks
    rows_end h t et =
        let e : t ≡ every test (from 0 n)
        = et ∙ sym (and-true ok) ∙ ap (λ (x : Bool). ok && x) (sym (every_end test i n h)) ∙ p.left in
        record {
          is = e;
          each = λ q j l. p.each j (omega arith) (every-from test 0 n (sym e ∙ q) j (omega arith) (omega arith));
          long = omega (arith, p.long, p.wide);
        }
