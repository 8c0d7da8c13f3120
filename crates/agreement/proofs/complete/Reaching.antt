-- A walk over a list in which an element stands reaches it: what the step at that element gives holds where the walk ends. Assumes nothing.
use mathlib.Core.Path.{◌≡◌, refl, sym}
use mathlib.Core.Logic.{◌⊎◌, inl, inr, ⊎_elim}
use Prim.Native.Nat.{ℕ, zero, suc}
use mathlib.Core.Bool.{Bool, true, false, ◌||◌, true≢false}
use mathlib.Core.List.{List, [], ◌∷◌}
use Rattle.model.specs.Lists.{any, unless, repeat, walk_until, walk, for_each}
use Rattle.model.proofs.base.WalkLaws.{walk_until_ends, for_each_ends}

-- the element is the first, or stands in the rest
first_or_rest : (b c : Bool) → (b || c) ≡ true → (b ≡ true) ⊎ (c ≡ true)
first_or_rest true c h = inl refl
first_or_rest false c h = inr h

-- J holds until the element is reached and each step keeps it; from there on Q, which each step keeps too
module _ {A S : Type 0} (J Q : S → Type 0) (here : A → Bool) (step : A → S → S)
    (keeps : (x : A) (t : S) → J t → J (step x t)) (stays : (x : A) (t : S) → Q t → Q (step x t))
    (reach : (x : A) (t : S) → here x ≡ true → J t → Q (step x t)) where
  Coming : List A → S → Type 0
  Coming ys t = Q t ⊎ (J t × (any here ys ≡ true))

  coming_next : (x : A) (xs : List A) (t : S) → Coming (x ∷ xs) t → Coming xs (step x t)
  unfolding Coming any
  coming_next x xs t (inl q) = inl (stays x t q)
  coming_next x xs t (inr h) =
      ⊎_elim (λ e. inl (reach x t e h.0)) (λ e. inr (keeps x t h.0, e)) (first_or_rest (here x) (any here xs) h.1)

  coming_end : (t : S) → Coming [] t → Q t
  unfolding Coming any
  coming_end t (inl q) = q
  coming_end t (inr h) = absurd (true≢false (sym h.1))

  -- a halting walk, where the halting step gives Q
  pub walk_until_reaches : (halt : A → S → Bool) → ((x : A) (t : S) → halt x t ≡ true → J t → Q (step x t))
      → (xs : List A) (s : S) → any here xs ≡ true → J s → Q (walk_until step halt xs s)
  unfolding Coming
  walk_until_reaches halt stops xs s e h =
      walk_until_ends Coming Q step halt (λ x ys t g o. coming_next x ys t g)
      (λ x ys t g o. ⊎_elim (λ q. stays x t q) (λ c. stops x t o c.0) g) coming_end xs s (inr (h, e))

  -- a walk up to where the work is done, where work that is done gives Q
  pub walk_reaches : (done : S → Bool) → ((t : S) → done t ≡ true → J t → Q t)
      → (xs : List A) (s : S) → any here xs ≡ true → J s → Q (walk step done xs s)
  unfolding walk
  walk_reaches done over xs s e h = walk_until_reaches (λ x t. done (step x t)) (λ x t o g. over (step x t) o (keeps x t g)) xs s e h

  -- a step for each element
  pub for_each_reaches : (xs : List A) (s : S) → any here xs ≡ true → J s → Q (for_each step xs s)
  unfolding Coming
  for_each_reaches xs s e h = coming_end (for_each step xs s) (for_each_ends Coming step coming_next xs s (inr (h, e)))

-- ---- turns
-- I is known of the turns that are left and the state; Q is known where the work is done, and where no turn is left
module _ {S : Type 0} (I : ℕ → S → Type 0) (Q : S → Type 0) (turn : S → S) (done : S → Bool)
    (next : (n : ℕ) (t : S) → done t ≡ false → I (suc n) t → I n (turn t))
    (over : (n : ℕ) (t : S) → done t ≡ true → I n t → Q t) (last : (t : S) → I 0 t → Q t) where
  pub repeat_reaches : (n : ℕ) (s : S) → I n s → Q (repeat n turn done s)
  unfolding repeat unless
  repeat_reaches zero s h = last s h
  repeat_reaches (suc n) s h = go (done s) refl (λ e. repeat_reaches n (turn s) (next n s e h))
    where
      go : (b : Bool) → done s ≡ b → (done s ≡ false → Q (repeat n turn done (turn s)))
          → Q (unless b (λ t. repeat n turn done (turn t)) s)
      go true e f = over (suc n) s e h
      go false e f = f e
