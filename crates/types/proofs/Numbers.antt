-- Numbers of an enum's cases, for any enum: `number` gives each case's number, `found` and `nothing` are the answers of the way back.
-- Assumes nothing.
use mathlib.Core.Path.{◌≡◌, refl, sym, ap, ◌∙◌}
use mathlib.Core.Bool.{Bool, true, false, cond}
use mathlib.Core.List.{List, [], ◌∷◌}
use Prim.Native.Nat.{ℕ}
use borrow.Author.Tests.{ne_eqb, eqb-true}
use lib.Dec.{eqb}
use Rattle.types.specs.Numbers.{case_with}

-- cases and numbers give each other back
pub record RoundTrip {A B : Type 0} (number : A → ℕ) (found : A → B) (nothing : B) (with_number : ℕ → B) : Type 0 where
  -- the case that a case's number gives is that case
  pub back : (x : A) → with_number (number x) ≡ found x
  -- the number of the case that a number gives is that number
  pub forth : (n : ℕ) (x : A) → with_number n ≡ found x → number x ≡ n
  -- where a number gives nothing, it is the number of no case
  pub none : (n : ℕ) (x : A) → with_number n ≡ nothing → number x ≡ n → ⊥
  -- two cases have different numbers
  pub distinct : (x y : A) → number x ≡ number y → x ≡ y

module _ {A B : Type 0} (number : A → ℕ) (found : A → B) (nothing : B) where
  -- n is the number of none of the cases
  abbrev pub Unlisted : ℕ → List A → Type 0
  Unlisted n [] = Unit {0}
  Unlisted n (x ∷ xs) = (n ≡ number x → ⊥) × Unlisted n xs

  -- such a number gives nothing
  pub unlisted : (n : ℕ) (xs : List A) → Unlisted n xs → nothing ≡ case_with number found nothing xs n
  unfolding case_with
  unlisted n [] u = refl
  unlisted n (x ∷ xs) u = unlisted n xs u.1 ∙ rw (ne_eqb (number x) n (λ e. u.0 (sym e)))

  -- where the answers for two cases differ, and none of them is the answer for nothing
  module _ (same : (x y : A) → found x ≡ found y → x ≡ y) (apart : (x : A) → nothing ≡ found x → ⊥) where
    by_test : (n : ℕ) (x y : A) (rest : B) (t : Bool) → eqb (number y) n ≡ t → (rest ≡ found x → number x ≡ n) → cond t (found y) rest ≡ found x → number x ≡ n
    by_test n x y rest true h later e = ap number (sym (same y x e)) ∙ eqb-true (number y) n h
    by_test n x y rest false h later e = later e

    case_number : (n : ℕ) (x : A) (xs : List A) → case_with number found nothing xs n ≡ found x → number x ≡ n
    unfolding case_with
    case_number n x [] e = absurd (apart x e)
    case_number n x (y ∷ ys) e = by_test n x y (case_with number found nothing ys n) (eqb (number y) n) refl (case_number n x ys) e

    -- it is enough that each case is given back
    pub round_trip : (cases : List A) → ((x : A) → case_with number found nothing cases (number x) ≡ found x)
        → RoundTrip number found nothing (case_with number found nothing cases)
    round_trip cases back =
        record {
          back = back;
          forth = λ n x e. case_number n x cases e;
          none = λ n x h e. apart x (sym h ∙ ap (case_with number found nothing cases) (sym e) ∙ back x);
          distinct = λ x y e. same x y (sym (back x) ∙ ap (case_with number found nothing cases) e ∙ back y);
        }
