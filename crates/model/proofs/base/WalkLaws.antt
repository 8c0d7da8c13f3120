-- Walks, turns and phases: what each step keeps holds where they end. Assumes nothing.
-- A law takes the predicate first, then the walk, then what is known of a step.
use mathlib.Core.Path.{◌≡◌, refl}
use Prim.Native.Nat.{ℕ, zero, suc, ◌+◌, ◌*◌, ◌≤◌, ◌<◌}
use native.Mathlib.Omega.{arith}
use mathlib.Core.Bool.{Bool, true, false}
use mathlib.Core.List.{List, [], ◌∷◌}
use lib.ListN.{length}
use Rattle.model.specs.Lists.{unless, when, repeat, walk_until, walk, every, len, for_each}
use Rattle.model.proofs.base.Truths.{and_left, and_right}

-- ---- choices and phases
module _ {S : Type 0} (I : S → Type 0) where
  -- a phase that is left out where the work is done
  pub unless_keeps : (b : Bool) (f : S → S) (s : S) → I s → (b ≡ false → I (f s)) → I (unless b f s)
  unfolding unless
  unless_keeps true f s h g = h
  unless_keeps false f s h g = g refl

  -- a phase that is made where a condition holds
  pub when_keeps : (b : Bool) (f : S → S) (s : S) → I s → (b ≡ true → I (f s)) → I (when b f s)
  unfolding when
  when_keeps true f s h g = g refl
  when_keeps false f s h g = h

  -- turns: each is made where the work is not done
  pub repeat_keeps : (turn : S → S) (done : S → Bool) → ((t : S) → done t ≡ false → I t → I (turn t))
      → (n : ℕ) (s : S) → I s → I (repeat n turn done s)
  unfolding repeat
  repeat_keeps turn done f zero s h = h
  repeat_keeps turn done f (suc n) s h =
      unless_keeps (done s) (λ t. repeat n turn done (turn t)) s h (λ e. repeat_keeps turn done f n (turn s) (f s e h))

-- I is known of the turns that are left and the state
module _ {S : Type 0} (I : ℕ → S → Type 0) (Q : S → Type 0) (turn : S → S) (done : S → Bool) where
  pub repeat_counts : ((n : ℕ) (t : S) → done t ≡ false → I (suc n) t → I n (turn t)) → ((n : ℕ) (t : S) → I n t → Q t)
      → (n : ℕ) (s : S) → I n s → Q (repeat n turn done s)
  unfolding repeat
  repeat_counts f end zero s h = end zero s h
  repeat_counts f end (suc n) s h =
      unless_keeps Q (done s) (λ t. repeat n turn done (turn t)) s (end (suc n) s h) (λ e. repeat_counts f end n (turn s) (f n s e h))

-- ---- walks
-- I is known of the elements that are left and the state. Steps keep it; the halting step, or the list's end, gives Q
module _ {A S : Type 0} (I : List A → S → Type 0) (Q : S → Type 0) (step : A → S → S) (halt : A → S → Bool) where
  pub walk_until_ends : ((x : A) (xs : List A) (t : S) → I (x ∷ xs) t → halt x t ≡ false → I xs (step x t))
      → ((x : A) (xs : List A) (t : S) → I (x ∷ xs) t → halt x t ≡ true → Q (step x t))
      → ((t : S) → I [] t → Q t)
      → (xs : List A) (s : S) → I xs s → Q (walk_until step halt xs s)
  unfolding walk_until unless
  walk_until_ends go stop end [] s h = end s h
  walk_until_ends go stop end (x ∷ xs) s h = turn (halt x s) refl (λ e. walk_until_ends go stop end xs (step x s) (go x xs s h e))
    where
      turn : (b : Bool) → halt x s ≡ b → (halt x s ≡ false → Q (walk_until step halt xs (step x s)))
          → Q (unless b (λ t. walk_until step halt xs t) (step x s))
      turn true e f = stop x xs s h e
      turn false e f = f e

module _ {A S : Type 0} (I : S → Type 0) (step : A → S → S) where
  -- a predicate that each step keeps
  pub walk_until_keeps : (halt : A → S → Bool) → ((x : A) (t : S) → I t → I (step x t)) → (xs : List A) (s : S) → I s → I (walk_until step halt xs s)
  walk_until_keeps halt f xs s h =
      walk_until_ends (λ ys t. I t) I step halt (λ x ys t g e. f x t g) (λ x ys t g e. f x t g) (λ t g. g) xs s h

  -- a walk over elements that pass a test; a step is made where the work is not done
  pub walk_keeps_in : (ok : A → Bool) (done : S → Bool) → ((x : A) (t : S) → ok x ≡ true → done t ≡ false → I t → I (step x t))
      → (xs : List A) (s : S) → every ok xs ≡ true → done s ≡ false → I s → I (walk step done xs s)
  unfolding walk every
  walk_keeps_in ok done f xs s o d h =
      walk_until_ends (λ ys t. (every ok ys ≡ true) × (done t ≡ false) × I t) I step (λ x t. done (step x t))
      (λ x ys t g e. (and_right (ok x) (every ok ys) g.0, e, f x t (and_left (ok x) (every ok ys) g.0) g.1 g.2))
      (λ x ys t g e. f x t (and_left (ok x) (every ok ys) g.0) g.1 g.2)
      (λ t g. g.2) xs s (o, d, h)

  -- a walk over any elements
  pub walk_keeps : (done : S → Bool) → ((x : A) (t : S) → done t ≡ false → I t → I (step x t))
      → (xs : List A) (s : S) → done s ≡ false → I s → I (walk step done xs s)
  unfolding walk
  walk_keeps done f xs s d h =
      walk_until_ends (λ ys t. (done t ≡ false) × I t) I step (λ x t. done (step x t))
      (λ x ys t g e. (e, f x t g.0 g.1)) (λ x ys t g e. f x t g.0 g.1) (λ t g. g.1) xs s (d, h)

-- ---- a step for each element
module _ {A S : Type 0} (step : A → S → S) where
  -- a walk that never halts
  pub for_each_walk : (xs : List A) (s : S) → for_each step xs s ≡ walk_until step (λ x t. false) xs s
  unfolding for_each walk_until unless
  for_each_walk [] s = refl
  for_each_walk (x ∷ xs) s = for_each_walk xs (step x s)

-- I is known of the elements that are left and the state
module _ {A S : Type 0} (I : List A → S → Type 0) (step : A → S → S) where
  pub for_each_ends : ((x : A) (xs : List A) (t : S) → I (x ∷ xs) t → I xs (step x t)) → (xs : List A) (s : S) → I xs s → I [] (for_each step xs s)
  unfolding for_each
  for_each_ends f [] s h = h
  for_each_ends f (x ∷ xs) s h = for_each_ends f xs (step x s) (f x xs s h)

module _ {A S : Type 0} (I : S → Type 0) (step : A → S → S) where
  -- a predicate that each step keeps
  pub for_each_keeps : ((x : A) (t : S) → I t → I (step x t)) → (xs : List A) (s : S) → I s → I (for_each step xs s)
  for_each_keeps f xs s h = for_each_ends (λ ys t. I t) step (λ x ys t g. f x t g) xs s h

-- ---- walks that count
-- I is known of a number and the state, and a step raises the number: a walk raises it by at most one for each element
module _ {A S : Type 0} (I : ℕ → S → Type 0) (more : (m n : ℕ) (t : S) → m ≤ n → I m t → I n t) (step : A → S → S) where
  pub walk_until_counts : (k : ℕ) (halt : A → S → Bool) → ((m : ℕ) (x : A) (t : S) → I m t → I (m + k) (step x t))
      → (xs : List A) (m : ℕ) (s : S) → I m s → I (m + len xs * k) (walk_until step halt xs s)
  unfolding len
  walk_until_counts k halt f xs m s h =
      walk_until_ends (λ ys t. (j : ℕ) × I j t × (j + length ys * k ≤ m + length xs * k)) (I (m + length xs * k)) step halt
      (λ x ys t g e. (g.0 + k, f g.0 x t g.1, let l = g.2 in omega arith))
      (λ x ys t g e. let l = g.2 in more (g.0 + k) (m + length xs * k) (step x t) (omega arith) (f g.0 x t g.1))
      (λ t g. let l = g.2 in more g.0 (m + length xs * k) t (omega arith) g.1) xs s (m, h, omega arith)

  -- the same of a step for each element
  pub for_each_counts : (k : ℕ) → ((m : ℕ) (x : A) (t : S) → I m t → I (m + k) (step x t))
      → (xs : List A) (m : ℕ) (s : S) → I m s → I (m + len xs * k) (for_each step xs s)
  for_each_counts k f xs m s h = rw (for_each_walk step xs s) (walk_until_counts k (λ x t. false) f xs m s h)

  -- the same up to the step after which the work is done
  pub walk_counts : (k : ℕ) (done : S → Bool) → ((m : ℕ) (x : A) (t : S) → I m t → I (m + k) (step x t))
      → (xs : List A) (m : ℕ) (s : S) → I m s → I (m + len xs * k) (walk step done xs s)
  unfolding walk
  walk_counts k done f xs m s h = walk_until_counts k (λ x t. done (step x t)) f xs m s h

  -- the same by one, where a step is made only while the work is not done
  pub walk_raises : (done : S → Bool) → ((m : ℕ) (x : A) (t : S) → done t ≡ false → I m t → I (m + 1) (step x t))
      → (xs : List A) (m : ℕ) (s : S) → done s ≡ false → I m s → I (m + len xs) (walk step done xs s)
  unfolding walk len
  walk_raises done f xs m s d h =
      walk_until_ends (λ ys t. (j : ℕ) × (done t ≡ false) × I j t × (j + length ys ≤ m + length xs)) (I (m + length xs)) step (λ x t. done (step x t))
      (λ x ys t g e. (g.0 + 1, e, f g.0 x t g.1 g.2, let l = g.3 in omega arith))
      (λ x ys t g e. let l = g.3 in more (g.0 + 1) (m + length xs) (step x t) (omega arith) (f g.0 x t g.1 g.2))
      (λ t g. let l = g.3 in more g.0 (m + length xs) t (omega arith) g.2) xs s (m, d, h, omega arith)

-- ---- turns that end
-- a number that falls with each turn, until the work is done: more turns than that number end it
module _ {S : Type 0} (I : S → Type 0) (turn : S → S) (done : S → Bool) (measure : S → ℕ)
    (falls : (t : S) → done t ≡ false → I t → I (turn t) × (done (turn t) ≡ false → measure (turn t) < measure t)) where
  pub repeat_ends : (n : ℕ) (s : S) → I s → (done s ≡ false → measure s < n) → done (repeat n turn done s) ≡ true
  unfolding repeat unless
  repeat_ends zero s h l = go (done s) refl
    where
      go : (b : Bool) → done s ≡ b → b ≡ true
      go true e = refl
      go false e = let m = l e in absurd (omega arith)
  repeat_ends (suc n) s h l = go (done s) refl (λ e. repeat_ends n (turn s) (falls s e h).0 (λ g. let a = (falls s e h).1 g in let b = l e in omega arith))
    where
      go : (b : Bool) → done s ≡ b → (done s ≡ false → done (repeat n turn done (turn s)) ≡ true)
          → done (unless b (λ t. repeat n turn done (turn t)) s) ≡ true
      go true e f = e
      go false e f = f e

-- where the turns suffice more of them change nothing
module _ {S : Type 0} (turn : S → S) (done : S → Bool) where
  done_stays : (m : ℕ) (s : S) → done s ≡ true → repeat m turn done s ≡ s
  unfolding repeat unless
  done_stays zero s e = refl
  done_stays (suc m) s e = rw e

  -- n turns that end the work are as good as n + m
  pub repeat_enough : (n m : ℕ) (s : S) → done (repeat n turn done s) ≡ true → repeat (n + m) turn done s ≡ repeat n turn done s
  unfolding repeat unless
  repeat_enough zero m s e = let z : zero + m ≡ m = omega arith in rw z (done_stays m s e)
  repeat_enough (suc n) m s e = let z : suc n + m ≡ suc (n + m) = omega arith in rw z (go (done s) (λ f. repeat_enough n m (turn s) f) e)
    where
      go : (b : Bool) → (done (repeat n turn done (turn s)) ≡ true → repeat (n + m) turn done (turn s) ≡ repeat n turn done (turn s))
          → done (unless b (λ t. repeat n turn done (turn t)) s) ≡ true
          → unless b (λ t. repeat (n + m) turn done (turn t)) s ≡ unless b (λ t. repeat n turn done (turn t)) s
      go true f e = refl
      go false f e = f e
