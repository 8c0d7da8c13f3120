-- Lists made of a function on their places: length, elements, one changed, one more, one less. Assumes nothing.
use mathlib.Core.Path.{◌≡◌, refl, ap}
use mathlib.Core.Logic.{◌≢◌}
use mathlib.Core.List.{List, [], ◌∷◌, ◌++◌}
use Prim.Native.Nat.{ℕ, zero, suc, ◌+◌, ◌≤◌, ◌<◌}
use native.Mathlib.Nat.{not-suc-le-zero, le_of_suc-le-suc}
use native.Mathlib.Decide.{ℕ_discrete}
use native.Mathlib.Omega.{arith}
use borrow.Author.Tests.{eq-eqb, ne_eqb}
use lib.ListN.{length, get_or}
use Rattle.model.specs.Lists.{nth, len, set_nth, remove_nth, each}
use Rattle.memory_layout.specs.Tables.{tabulate, front, choose}

module _ {A : Type 0} where
  -- as long as it was asked for
  pub tabulate-len : (n : ℕ) (f : ℕ → A) → len (tabulate n f) ≡ n
  unfolding tabulate len
  tabulate-len zero f = refl
  tabulate-len (suc n) f = ap suc (tabulate-len n (λ k. f (suc k)))

  -- its elements
  pub tabulate-nth : (n : ℕ) (f : ℕ → A) (i : ℕ) (d : A) → i < n → nth d (tabulate n f) i ≡ f i
  unfolding tabulate nth
  tabulate-nth zero f i d h = absurd (not-suc-le-zero h)
  tabulate-nth (suc n) f zero d h = refl
  tabulate-nth (suc n) f (suc i) d h = tabulate-nth n (λ k. f (suc k)) i d (le_of_suc-le-suc h)

  -- equal functions, equal lists
  pub tabulate_ext : (n : ℕ) (f g : ℕ → A) → ((i : ℕ) → i < n → f i ≡ g i) → tabulate n f ≡ tabulate n g
  unfolding tabulate
  tabulate_ext zero f g h = refl
  tabulate_ext (suc n) f g h =
      λ k. h zero (omega arith) k ∷ tabulate_ext n (λ j. f (suc j)) (λ j. g (suc j)) (λ j l. h (suc j) (omega arith)) k

  -- one place changed
  pub tabulate_set : (n : ℕ) (f g : ℕ → A) (i : ℕ) → i < n → ((j : ℕ) → j < n → j ≢ i → g j ≡ f j)
      → tabulate n g ≡ set_nth i (g i) (tabulate n f)
  unfolding tabulate set_nth
  tabulate_set zero f g i l other = absurd (not-suc-le-zero l)
  tabulate_set (suc n) f g zero l other =
      λ k. g zero ∷ tabulate_ext n (λ j. g (suc j)) (λ j. f (suc j)) (λ j h. other (suc j) (omega arith) (omega arith)) k
  tabulate_set (suc n) f g (suc i) l other =
      λ k. other zero (omega arith) (omega arith) k
      ∷ tabulate_set n (λ j. f (suc j)) (λ j. g (suc j)) i (le_of_suc-le-suc l)
      (λ j h ne. other (suc j) (omega arith) (λ e. ne (omega arith))) k

  -- a place past the end changes nothing
  pub set_past : (i : ℕ) (x : A) (l : List A) → len l ≤ i → set_nth i x l ≡ l
  unfolding set_nth len
  set_past i x [] h = refl
  set_past zero x (y ∷ ys) h = absurd (not-suc-le-zero h)
  set_past (suc i) x (y ∷ ys) h = ap (λ (l : List A). y ∷ l) (set_past i x ys (le_of_suc-le-suc h))

  -- the front of a list, shorter
  pub tabulate-front : (k n : ℕ) (f : ℕ → A) → k ≤ n → front k (tabulate n f) ≡ tabulate k f
  unfolding tabulate front
  tabulate-front zero n f h = refl
  tabulate-front (suc k) zero f h = absurd (not-suc-le-zero h)
  tabulate-front (suc k) (suc n) f h = ap (λ (l : List A). f zero ∷ l) (tabulate-front k n (λ j. f (suc j)) (le_of_suc-le-suc h))

  -- one more at the end
  pub tabulate_more : (n : ℕ) (f : ℕ → A) → tabulate (suc n) f ≡ tabulate n f ++ (f n ∷ [])
  unfolding tabulate
  tabulate_more zero f = refl
  tabulate_more (suc n) f = ap (λ (l : List A). f zero ∷ l) (tabulate_more n (λ k. f (suc k)))

  -- one less: those after it move down by one
  pub tabulate_without : (n : ℕ) (f g : ℕ → A) (i : ℕ) → i ≤ n → ((j : ℕ) → j < i → g j ≡ f j) → ((j : ℕ) → i ≤ j → j < n → g j ≡ f (suc j))
      → tabulate n g ≡ remove_nth i (tabulate (suc n) f)
  unfolding tabulate remove_nth
  tabulate_without n f g zero h low high = tabulate_ext n g (λ k. f (suc k)) (λ j l. high j (omega arith) l)
  tabulate_without zero f g (suc i) h low high = absurd (not-suc-le-zero h)
  tabulate_without (suc n) f g (suc i) h low high =
      λ k. low zero (omega arith) k
      ∷ tabulate_without n (λ j. f (suc j)) (λ j. g (suc j)) i (le_of_suc-le-suc h) (λ j l. low (suc j) (omega arith))
      (λ j l m. high (suc j) (omega arith) (omega arith)) k

  -- the front of a list that is no longer
  pub front_whole : (l : List A) (k : ℕ) → length l ≡ k → front k l ≡ l
  unfolding front
  front_whole [] zero h = refl
  front_whole [] (suc k) h = absurd (omega arith)
  front_whole (x ∷ xs) zero h = absurd (omega arith)
  front_whole (x ∷ xs) (suc k) h = ap (λ (l : List A). x ∷ l) (front_whole xs k (omega arith))

  -- what a function gives for each element of a list
  pub tabulate-each : (g : ℕ → A) (ys : List ℕ) (n : ℕ) (f : ℕ → A) → length ys ≡ n → ((i : ℕ) → i < n → f i ≡ g (get_or ys i 0))
      → tabulate n f ≡ each g ys
  unfolding tabulate each
  tabulate-each g [] zero f l h = refl
  tabulate-each g [] (suc n) f l h = absurd (omega arith)
  tabulate-each g (y ∷ ys) zero f l h = absurd (omega arith)
  tabulate-each g (y ∷ ys) (suc n) f l h =
      λ k. h zero (omega arith) k ∷ tabulate-each g ys n (λ j. f (suc j)) (omega arith) (λ j m. h (suc j) (omega arith)) k

-- ---- a field chosen by its number
module _ {A : Type 0} where
  -- the field of that number
  pub choose_same : (f : ℕ) (a b : A) → choose f f a b ≡ a
  unfolding choose
  choose_same f a b = rw (eq-eqb f f refl)

  -- another field
  pub choose_other : (f g : ℕ) (a b : A) → f ≢ g → choose f g a b ≡ b
  unfolding choose
  choose_other f g a b n = rw (ne_eqb f g n)

module _ {A B : Type 0} where
  -- a function of the field
  pub choose_map : (h : A → B) (f g : ℕ) (a b : A) → h (choose f g a b) ≡ choose f g (h a) (h b)
  choose_map h f g a b = elim (ℕ_discrete f g) [
    | yes e ↦ rw (e, choose_same g a b, choose_same g (h a) (h b))
    | no n ↦ rw (choose_other f g a b n, choose_other f g (h a) (h b) n)
  ]
