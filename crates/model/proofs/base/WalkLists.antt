-- A walk over a filtered or mapped list is a walk over the list itself, with a test in front of each step. Assumes nothing.
use mathlib.Core.Path.{◌≡◌, refl, ◌∙◌}
use mathlib.Core.Bool.{Bool, true, false, cond, ◌&&◌}
use mathlib.Core.List.{List, [], ◌∷◌}
use Rattle.model.specs.Lists.{filter, each, unless, when, for_each, walk_until, walk}

-- ---- those that pass a test
module _ {A S : Type 0} (t : A → Bool) (step : A → S → S) where
  -- an element that does not pass it makes no step, and does not halt
  pub walk_until-filter : (halt : A → S → Bool) (xs : List A) (s : S)
      → walk_until step halt (filter t xs) s ≡ walk_until (λ x. when (t x) (step x)) (λ x u. t x && halt x u) xs s
  unfolding walk_until filter unless when
  walk_until-filter halt [] s = refl
  walk_until-filter halt (x ∷ xs) s = pass (t x) (walk_until-filter halt xs)
    where
      both : (b : Bool) (u : S) → ((v : S) → walk_until step halt (filter t xs) v ≡ walk_until (λ x. when (t x) (step x)) (λ x u. t x && halt x u) xs v)
          → unless b (λ v. walk_until step halt (filter t xs) v) u ≡ unless b (λ v. walk_until (λ x. when (t x) (step x)) (λ x u. t x && halt x u) xs v) u
      both true u f = refl
      both false u f = f u

      pass : (b : Bool) → ((v : S) → walk_until step halt (filter t xs) v ≡ walk_until (λ x. when (t x) (step x)) (λ x u. t x && halt x u) xs v)
          → walk_until step halt (cond b (x ∷ filter t xs) (filter t xs)) s
          ≡ unless (b && halt x s) (λ v. walk_until (λ x. when (t x) (step x)) (λ x u. t x && halt x u) xs v) (when b (step x) s)
      pass true f = both (halt x s) (step x s) f
      pass false f = f s

  -- a step for each that passes
  pub for_each-filter : (xs : List A) (s : S) → for_each step (filter t xs) s ≡ for_each (λ x. when (t x) (step x)) xs s
  unfolding for_each filter when
  for_each-filter [] s = refl
  for_each-filter (x ∷ xs) s = pass (t x) (for_each-filter xs)
    where
      pass : (b : Bool) → ((v : S) → for_each step (filter t xs) v ≡ for_each (λ x. when (t x) (step x)) xs v)
          → for_each step (cond b (x ∷ filter t xs) (filter t xs)) s ≡ for_each (λ x. when (t x) (step x)) xs (when b (step x) s)
      pass true f = f (step x s)
      pass false f = f s

  -- up to the step after which the work is done, where it is not done before
  pub walk-filter : (done : S → Bool) (xs : List A) (s : S) → done s ≡ false → walk step done (filter t xs) s ≡ walk (λ x. when (t x) (step x)) done xs s
  unfolding walk walk_until filter unless when
  walk-filter done [] s e = refl
  walk-filter done (x ∷ xs) s e = pass (t x) (walk-filter done xs)
    where
      turn : (b : Bool) → done (step x s) ≡ b → ((v : S) → done v ≡ false → walk step done (filter t xs) v ≡ walk (λ x. when (t x) (step x)) done xs v)
          → unless b (λ v. walk step done (filter t xs) v) (step x s) ≡ unless b (λ v. walk (λ x. when (t x) (step x)) done xs v) (step x s)
      turn true q f = refl
      turn false q f = f (step x s) q

      pass : (b : Bool) → ((v : S) → done v ≡ false → walk step done (filter t xs) v ≡ walk (λ x. when (t x) (step x)) done xs v)
          → walk step done (cond b (x ∷ filter t xs) (filter t xs)) s
          ≡ unless (done (when b (step x) s)) (λ v. walk (λ x. when (t x) (step x)) done xs v) (when b (step x) s)
      pass true f = turn (done (step x s)) refl f
      pass false f = rw e (f s e)

-- ---- what a function gives
module _ {A B S : Type 0} (f : A → B) (step : B → S → S) where
  -- the step is made at what it gives
  pub walk_until-each : (halt : B → S → Bool) (xs : List A) (s : S) → walk_until step halt (each f xs) s ≡ walk_until (λ x. step (f x)) (λ x. halt (f x)) xs s
  unfolding walk_until each unless
  walk_until-each halt [] s = refl
  walk_until-each halt (x ∷ xs) s = go (halt (f x) s) (walk_until-each halt xs (step (f x) s))
    where
      go : (b : Bool) → walk_until step halt (each f xs) (step (f x) s) ≡ walk_until (λ x. step (f x)) (λ x. halt (f x)) xs (step (f x) s)
          → unless b (λ v. walk_until step halt (each f xs) v) (step (f x) s) ≡ unless b (λ v. walk_until (λ x. step (f x)) (λ x. halt (f x)) xs v) (step (f x) s)
      go true h = refl
      go false h = h

  -- so is the step for each
  pub for_each-each : (xs : List A) (s : S) → for_each step (each f xs) s ≡ for_each (λ x. step (f x)) xs s
  unfolding for_each each
  for_each-each [] s = refl
  for_each-each (x ∷ xs) s = for_each-each xs (step (f x) s)

-- ---- both at once: those that pass among what a function gives
module _ {A B S : Type 0} (t : B → Bool) (f : A → B) (step : B → S → S) where
  -- a walk over the list itself, with the test in front of the step
  pub walk_until_chosen : (halt : B → S → Bool) (xs : List A) (s : S)
      → walk_until step halt (filter t (each f xs)) s ≡ walk_until (λ x. when (t (f x)) (step (f x))) (λ x u. t (f x) && halt (f x) u) xs s
  walk_until_chosen halt xs s =
      walk_until-filter t step halt (each f xs) s ∙ walk_until-each f (λ y. when (t y) (step y)) (λ y u. t y && halt y u) xs s

  -- the same of a step for each
  pub for_each_chosen : (xs : List A) (s : S) → for_each step (filter t (each f xs)) s ≡ for_each (λ x. when (t (f x)) (step (f x))) xs s
  for_each_chosen xs s = for_each-filter t step (each f xs) s ∙ for_each-each f (λ y. when (t y) (step y)) xs s
