-- A walk over the numbers from k up to n that halts by a test of its own, and the place after j round n places. Assumes nothing.
use mathlib.Core.Path.{◌≡◌, sym, ap, ◌∙◌}
use mathlib.Core.Bool.{Bool, true, false}
use mathlib.Core.List.{List, [], ◌∷◌}
use Prim.Native.Nat.{ℕ, suc, ◌+◌, ◌-◌, ◌*◌, ◌/◌, ◌%◌, ◌≤◌, ◌<◌}
use native.Mathlib.Nat.{mod-lt, mod-eq_of_lt, mod_self, div-add-mod'}
use native.Mathlib.Decide.{dec_lt}
use native.Mathlib.Omega.{arith}
use lib.Arith.{digits_mod}
use Rattle.model.specs.Lists.{from, range, unless, for_each, walk_until}

-- ---- numbers in turn
range_next : (k n : ℕ) → k < n → range k n ≡ k ∷ range (k + 1) n
unfolding range from
range_next k n h =
    let e : n - k ≡ suc (n - (k + 1)) = omega arith in
    let one : suc k ≡ k + 1 = omega arith in
    ap (from k) e ∙ ap (λ (m : ℕ). k ∷ from m (n - (k + 1))) one

range_none : (k n : ℕ) → n ≤ k → range k n ≡ []
unfolding range from
range_none k n h = let e : n - k ≡ 0 = omega arith in ap (from k) e

pub range_all : (n : ℕ) → from 0 n ≡ range 0 n
unfolding range
range_all n = let e : n ≡ n - 0 = omega arith in ap (from 0) e

module _ {S : Type 0} (step : ℕ → S → S) (k n : ℕ) (s : S) where
  -- a step for each
  pub each_next : k < n → for_each step (range k n) s ≡ for_each step (range (k + 1) n) (step k s)
  unfolding for_each
  each_next h = ap (λ (l : List ℕ). for_each step l s) (range_next k n h)

  pub each_none : n ≤ k → for_each step (range k n) s ≡ s
  unfolding for_each
  each_none h = ap (λ (l : List ℕ). for_each step l s) (range_none k n h)

  module _ (halt : ℕ → S → Bool) where
    turn : k < n → walk_until step halt (range k n) s ≡ unless (halt k s) (λ t. walk_until step halt (range (k + 1) n) t) (step k s)
    unfolding walk_until
    turn h = ap (λ (l : List ℕ). walk_until step halt l s) (range_next k n h)

    -- a walk goes on
    pub until_next : k < n → halt k s ≡ false → walk_until step halt (range k n) s ≡ walk_until step halt (range (k + 1) n) (step k s)
    unfolding unless
    until_next h e = turn h ∙ ap (λ (b : Bool). unless b (λ t. walk_until step halt (range (k + 1) n) t) (step k s)) e

    -- or its step was the last
    pub until_stop : k < n → halt k s ≡ true → walk_until step halt (range k n) s ≡ step k s
    unfolding unless
    until_stop h e = turn h ∙ ap (λ (b : Bool). unless b (λ t. walk_until step halt (range (k + 1) n) t) (step k s)) e

    pub until_none : n ≤ k → walk_until step halt (range k n) s ≡ s
    unfolding walk_until
    until_none h = ap (λ (l : List ℕ). walk_until step halt l s) (range_none k n h)

-- ---- round n places
pub place_low : (x n : ℕ) → 0 < n → x % n < n
place_low x n h = mod-lt x h

pub start_place : (first n : ℕ) → first < n → first ≡ (0 + first) % n
start_place first n h = let e : 0 + first ≡ first = omega arith in rw e (sym (mod-eq_of_lt h))

-- behind the last comes the first
pub next_up : (j n : ℕ) → j + 1 < n → j + 1 ≡ (j + 1) % n
next_up j n h = sym (mod-eq_of_lt h)

pub next_round : (j n : ℕ) → j < n → n ≤ j + 1 → 0 ≡ (j + 1) % n
next_round j n h g = let e : j + 1 ≡ n = omega arith in rw e (sym (mod_self n))

pub next_place : (k first n : ℕ) → 0 < n → ((k + first) % n + 1) % n ≡ (k + 1 + first) % n
next_place k first n h =
    let l = mod-lt (k + first) {m = n} h in
    let e = div-add-mod' (k + first) n in
    elim (dec_lt ((k + first) % n + 1) n) [
      | yes u ↦ mod-eq_of_lt u ∙ sym (ap (λ (x : ℕ). x % n) (up e) ∙ digits_mod ((k + first) / n) u)
      | no u ↦ sym (next_round ((k + first) % n) n l (omega arith)) ∙ sym (ap (λ (x : ℕ). x % n) (round l e u) ∙ digits_mod (suc ((k + first) / n)) h)
    ]
  where
    up : (k + first) / n * n + (k + first) % n ≡ k + first → k + 1 + first ≡ (k + first) / n * n + ((k + first) % n + 1)
    up e = omega arith

    round : (k + first) % n < n → (k + first) / n * n + (k + first) % n ≡ k + first → ((k + first) % n + 1 < n → ⊥)
        → k + 1 + first ≡ suc ((k + first) / n) * n + 0
    round l e u = omega arith
