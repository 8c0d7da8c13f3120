-- A walk over the numbers from j up to n: one number taken off, or none left. Assumes nothing.
use mathlib.Core.Path.{◌≡◌, ap, ◌∙◌}
use mathlib.Core.Bool.{Bool, true, false}
use mathlib.Core.List.{List, [], ◌∷◌}
use Prim.Native.Nat.{ℕ, suc, ◌+◌, ◌-◌, ◌≤◌, ◌<◌}
use native.Mathlib.Omega.{arith}
use Rattle.model.specs.Lists.{from, range, unless, for_each, walk_until, walk}

pub range_next : (j n : ℕ) → j < n → range j n ≡ j ∷ range (j + 1) n
unfolding range from
range_next j n h =
    let e : n - j ≡ suc (n - (j + 1)) = omega arith in
    ap (from j) e ∙ ap (λ (k : ℕ). j ∷ from k (n - (j + 1))) (sym_one j)
  where
    sym_one : (k : ℕ) → suc k ≡ k + 1
    sym_one k = omega arith

pub range_none : (j n : ℕ) → n ≤ j → range j n ≡ []
unfolding range from
range_none j n h = let e : n - j ≡ 0 = omega arith in ap (from j) e

-- all of them
pub range_all : (n : ℕ) → range 0 n ≡ from 0 n
unfolding range
range_all n = let e : n - 0 ≡ n = omega arith in ap (from 0) e

module _ {S : Type 0} (step : ℕ → S → S) (j n : ℕ) (s : S) where
  -- a step for each
  pub each_next : j < n → for_each step (range j n) s ≡ for_each step (range (j + 1) n) (step j s)
  unfolding for_each
  each_next h = ap (λ (l : List ℕ). for_each step l s) (range_next j n h)

  pub each_none : n ≤ j → for_each step (range j n) s ≡ s
  unfolding for_each
  each_none h = ap (λ (l : List ℕ). for_each step l s) (range_none j n h)

  module _ (done : S → Bool) where
    turn : j < n → walk step done (range j n) s ≡ unless (done (step j s)) (λ t. walk step done (range (j + 1) n) t) (step j s)
    unfolding walk walk_until
    turn h = ap (λ (l : List ℕ). walk step done l s) (range_next j n h)

    -- a walk goes on
    pub walk_next : j < n → done (step j s) ≡ false → walk step done (range j n) s ≡ walk step done (range (j + 1) n) (step j s)
    unfolding unless
    walk_next h e = turn h ∙ ap (λ (b : Bool). unless b (λ t. walk step done (range (j + 1) n) t) (step j s)) e

    -- or its step was the last
    pub walk_stop : j < n → done (step j s) ≡ true → walk step done (range j n) s ≡ step j s
    unfolding unless
    walk_stop h e = turn h ∙ ap (λ (b : Bool). unless b (λ t. walk step done (range (j + 1) n) t) (step j s)) e

    pub walk_none : n ≤ j → walk step done (range j n) s ≡ s
    unfolding walk walk_until
    walk_none h = ap (λ (l : List ℕ). walk step done l s) (range_none j n h)
