-- A list made of a function on its places, from a place on: what is left of a pass over it. Assumes nothing.
use mathlib.Core.Path.{◌≡◌, refl, sym, ap, ap₂, ◌∙◌}
use mathlib.Core.Bool.{Bool, ◌||◌, or-false, or_assoc}
use mathlib.Core.List.{List, [], ◌∷◌, ◌++◌}
use Prim.Native.Nat.{ℕ, zero, suc, ◌+◌, ◌-◌, ◌≤◌, ◌<◌}
use native.Mathlib.Omega.{arith}
use lib.Dec.{eqb}
use Rattle.model.specs.Lists.{count, from, any, member, last_or}
use Rattle.memory_layout.specs.Tables.{tabulate}
use Rattle.memory_layout.proofs.TableLaws.{tabulate_ext, tabulate_more}

module _ {A : Type 0} where
  -- f k, f (k + 1), .. up to and without f n
  unfoldable pub tail : (ℕ → A) → ℕ → ℕ → List A
  tail f k n = tabulate (n - k) (λ i. f (k + i))

  pub tail_all : (f : ℕ → A) (n : ℕ) → tail f 0 n ≡ tabulate n f
  unfolding tail
  tail_all f n =
      let e : n - 0 ≡ n = omega arith in
      ap (λ (m : ℕ). tabulate m (λ i. f (0 + i))) e ∙ tabulate_ext n (λ i. f (0 + i)) f (λ i h. ap f (omega arith))

  pub tail_next : (f : ℕ → A) (k n : ℕ) → k < n → tail f k n ≡ f k ∷ tail f (k + 1) n
  unfolding tail tabulate
  tail_next f k n h =
      let e : n - k ≡ suc (n - (k + 1)) = omega arith in
      ap (λ (m : ℕ). tabulate m (λ i. f (k + i))) e
      ∙ ap₂ ◌∷◌ (ap f (omega arith)) (tabulate_ext (n - (k + 1)) (λ i. f (k + suc i)) (λ i. f (k + 1 + i)) (λ i l. ap f (omega arith)))

  pub tail_end : (f : ℕ → A) (k n : ℕ) → n ≤ k → tail f k n ≡ []
  unfolding tail tabulate
  tail_end f k n h = let e : n - k ≡ 0 = omega arith in ap (λ (m : ℕ). tabulate m (λ i. f (k + i))) e

  -- what was passed, one more
  pub front_next : (f : ℕ → A) (k : ℕ) → tabulate (k + 1) f ≡ tabulate k f ++ (f k ∷ [])
  front_next f k = let e : k + 1 ≡ suc k = omega arith in ap (λ (m : ℕ). tabulate m f) e ∙ tabulate_more k f

-- ---- elements
pub member_behind : (j x : ℕ) (l : List ℕ) → member j (l ++ (x ∷ [])) ≡ (member j l || eqb j x)
unfolding member any
member_behind j x [] = or-false (eqb j x)
member_behind j x (y ∷ ys) = ap (λ (t : Bool). eqb j y || t) (member_behind j x ys) ∙ sym (or_assoc (eqb j y) (any (eqb j) ys) (eqb j x))

pub last_behind : (d x : ℕ) (l : List ℕ) → last_or d (l ++ (x ∷ [])) ≡ x
unfolding last_or
last_behind d x [] = refl
last_behind d x (y ∷ ys) = last_behind y x ys

-- tests that agree below the end pass as often
pub count_below : (f g : ℕ → Bool) (k n : ℕ) → ((i : ℕ) → i < k + n → f i ≡ g i) → count f (from k n) ≡ count g (from k n)
unfolding count from
count_below f g k zero h = refl
count_below f g k (suc n) h = rw (h k (omega arith), count_below f g (suc k) n (λ i l. h i (omega arith)))
