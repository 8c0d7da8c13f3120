-- A predicate that each element of a list has, and the lists that keep it. Assumes nothing.
use mathlib.Core.Path.{◌≡◌, refl, subst}
use mathlib.Core.Logic.{◌⊎◌, inl, inr}
use Prim.Native.Nat.{ℕ, zero, suc, ◌+◌, ◌-◌, ◌≤◌, ◌<◌}
use native.Mathlib.Omega.{arith}
use mathlib.Core.Bool.{Bool, true, false, cond}
use mathlib.Core.List.{List, [], ◌∷◌, ◌++◌}
use lib.ListN.{take}
use Rattle.model.specs.Lists.{from, range, filter, each, nth, set_nth, len, last_or, for_each, walk_until, insert_by, sort_by}
use Rattle.model.proofs.base.WalkLaws.{walk_until_ends, for_each_ends}

pub data Each {A : Type 0} (P : A → Type 0) : List A → Type 0 where
  none_left : Each P []
  and_then : {x : A} {xs : List A} → P x → Each P xs → Each P (x ∷ xs)

module _ {A : Type 0} {P : A → Type 0} where
  -- the first has it
  pub first_has : {x : A} {xs : List A} → Each P (x ∷ xs) → P x
  first_has (and_then h hs) = h

  -- and so have the others
  pub others_have : {x : A} {xs : List A} → Each P (x ∷ xs) → Each P xs
  others_have (and_then h hs) = hs

  -- one list after another
  pub each_append : (xs ys : List A) → Each P xs → Each P ys → Each P (xs ++ ys)
  each_append [] ys h g = g
  each_append (x ∷ xs) ys h g = and_then (first_has h) (each_append xs ys (others_have h) g)

  -- the front of a list
  pub each-take : (n : ℕ) (xs : List A) → Each P xs → Each P (take n xs)
  each-take zero xs h = none_left
  each-take (suc n) [] h = none_left
  each-take (suc n) (x ∷ xs) h = and_then (first_has h) (each-take n xs (others_have h))

  -- another element at a place
  pub each-set : (k : ℕ) (y : A) (xs : List A) → P y → Each P xs → Each P (set_nth k y xs)
  unfolding set_nth
  each-set k y [] p h = none_left
  each-set zero y (x ∷ xs) p h = and_then p (others_have h)
  each-set (suc k) y (x ∷ xs) p h = and_then (first_has h) (each-set k y xs p (others_have h))

  -- the last element
  pub each_last : (e : A) (xs : List A) → 0 < len xs → Each P xs → P (last_or e xs)
  unfolding last_or len
  each_last e [] l h = absurd (omega arith)
  each_last e (x ∷ []) l h = first_has h
  each_last e (x ∷ y ∷ xs) l h = each_last x (y ∷ xs) (omega arith) (others_have h)

  -- the element at a place
  pub each-nth : (e : A) (xs : List A) (k : ℕ) → k < len xs → Each P xs → P (nth e xs k)
  unfolding nth len
  each-nth e [] k l h = absurd (omega arith)
  each-nth e (x ∷ xs) zero l h = first_has h
  each-nth e (x ∷ xs) (suc k) l h = each-nth e xs k (omega arith) (others_have h)

  -- and the other way
  pub each_places : (e : A) (xs : List A) → ((k : ℕ) → k < len xs → P (nth e xs k)) → Each P xs
  unfolding nth len
  each_places e [] f = none_left
  each_places e (x ∷ xs) f = and_then (f 0 (omega arith)) (each_places e xs (λ k l. f (suc k) (omega arith)))

  -- put in by a test, and sorted
  pub each_insert : (before : A → A → Bool) (y : A) (xs : List A) → P y → Each P xs → Each P (insert_by before y xs)
  unfolding insert_by
  each_insert before y [] p h = and_then p none_left
  each_insert before y (x ∷ xs) p h = go (before y x) (each_insert before y xs p (others_have h))
    where
      go : (b : Bool) → Each P (insert_by before y xs) → Each P (cond b (y ∷ x ∷ xs) (x ∷ insert_by before y xs))
      go true g = and_then p h
      go false g = and_then (first_has h) g

  pub each_sort : (before : A → A → Bool) (xs : List A) → Each P xs → Each P (sort_by before xs)
  unfolding sort_by
  each_sort before xs h = (for_each_ends (λ ys zs. Each P ys × Each P zs) (insert_by before)
      (λ x ys zs g. (others_have g.0, each_insert before x zs (first_has g.0) g.1)) xs [] (h, none_left)).1

-- those that pass a test: they pass it
pub each-filter : {A : Type 0} {P : A → Type 0} (t : A → Bool) (xs : List A) → Each P xs → Each (λ x. P x × (t x ≡ true)) (filter t xs)
unfolding filter
each-filter t [] h = none_left
each-filter {A} {P} t (x ∷ xs) h = go (t x) refl (each-filter t xs (others_have h))
  where
    go : (b : Bool) → t x ≡ b → Each (λ y. P y × (t y ≡ true)) (filter t xs)
        → Each (λ y. P y × (t y ≡ true)) (cond b (x ∷ filter t xs) (filter t xs))
    go true e g = and_then (first_has h, e) g
    go false e g = g

-- what a function gives
pub each_image : {A B : Type 0} {P : A → Type 0} {Q : B → Type 0} (f : A → B) → ((x : A) → P x → Q (f x)) → (xs : List A) → Each P xs
    → Each Q (each f xs)
unfolding each
each_image f g [] h = none_left
each_image f g (x ∷ xs) h = and_then (g x (first_has h)) (each_image f g xs (others_have h))

-- a predicate that follows from another
pub each_so : {A : Type 0} {P Q : A → Type 0} → ((x : A) → P x → Q x) → (xs : List A) → Each P xs → Each Q xs
each_so f [] h = none_left
each_so f (x ∷ xs) h = and_then (f x (first_has h)) (each_so f xs (others_have h))

-- n numbers, from k on
pub each_from : (k n : ℕ) → Each (λ i. (k ≤ i) × (i < k + n)) (from k n)
unfolding from
each_from k zero = none_left
each_from k (suc n) =
    and_then {x = k} (omega arith, omega arith)
    (each_so (λ i h. let l = h.0 in let m = h.1 in (omega arith, omega arith)) (from (suc k) n) (each_from (suc k) n))

-- the numbers of a range
pub each_range : (k end : ℕ) → Each (λ i. (k ≤ i) × (i < end)) (range k end)
unfolding range
each_range k end = each_so (λ i h. let l = h.0 in let m = h.1 in (l, omega arith)) (from k (end - k)) (each_from k (end - k))

-- ---- an element wherever it stands
module _ {A : Type 0} {P : A → Type 0} where
  -- between others
  pub each_between : (before : List A) (x : A) (after : List A) → Each P (before ++ (x ∷ after)) → P x
  each_between [] x after h = first_has h
  each_between (y ∷ before) x after h = each_between before x after (others_have h)

-- it is the last one, or one of those before
pub last_or_before : {A : Type 0} {P : A → Type 0} (front : List A) (z : A) (before : List A) (x : A) (after : List A)
    → front ++ (z ∷ []) ≡ before ++ (x ∷ after) → Each P front → ((x ≡ z) × (after ≡ [])) ⊎ P x
last_or_before [] z [] x after e h = let p : x ≡ z = cc in let q : after ≡ [] = cc in inl (p, q)
last_or_before [] z (y ∷ []) x after e h = let c : ◌≡◌ {A = ℕ} 0 1 = cc in absurd (omega arith)
last_or_before [] z (y ∷ y₂ ∷ before) x after e h = let c : ◌≡◌ {A = ℕ} 0 1 = cc in absurd (omega arith)
last_or_before {A} {P} (y ∷ front) z [] x after e h = let p : y ≡ x = cc in inr (subst P p (first_has h))
last_or_before (y ∷ front) z (y₂ ∷ before) x after e h =
    let t : front ++ (z ∷ []) ≡ before ++ (x ∷ after) = cc in
    last_or_before front z before x after t (others_have h)

-- ---- walks whose steps are made at elements that have it
module _ {A S : Type 0} {P : A → Type 0} (I : S → Type 0) (step : A → S → S) (keeps : (x : A) (t : S) → P x → I t → I (step x t)) where
  pub walk-each : (halt : A → S → Bool) (xs : List A) (s : S) → Each P xs → I s → I (walk_until step halt xs s)
  walk-each halt xs s o h =
      walk_until_ends (λ ys t. Each P ys × I t) I step halt (λ x ys t g e. (others_have g.0, keeps x t (first_has g.0) g.1))
      (λ x ys t g e. keeps x t (first_has g.0) g.1) (λ t g. g.1) xs s (o, h)

  pub for_each-each : (xs : List A) (s : S) → Each P xs → I s → I (for_each step xs s)
  for_each-each xs s o h =
      (for_each_ends (λ ys t. Each P ys × I t) step (λ x ys t g. (others_have g.0, keeps x t (first_has g.0) g.1)) xs s (o, h)).1
