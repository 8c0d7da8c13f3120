-- Where a number stands in a list: in a run of numbers, in a list the other way round, in a filtered one; and each free block of a partial
-- among those that a pick takes from any block on. Assumes nothing.
use mathlib.Core.Path.{◌≡◌, refl, sym, ap, ◌∙◌}
use mathlib.Core.Logic.{◌⊎◌, inl, inr, ⊎_elim}
use Prim.Native.Nat.{ℕ, zero, suc, ◌+◌, ◌-◌, ◌*◌, ◌/◌, ◌%◌, ◌≤◌, ◌<◌}
use native.Mathlib.Nat.{mod-lt, div-add-mod'}
use native.Mathlib.Decide.{ℕ_discrete, dec_le}
use native.Mathlib.Omega.{arith}
use mathlib.Core.Bool.{Bool, true, false, cond, ◌&&◌, ◌||◌, true≢false}
use mathlib.Core.List.{List, [], ◌∷◌}
use lib.Arith.{digits_mod}
use lib.Dec.{eqb}
use borrow.Author.Tests.{eqb-true, eq-eqb, ne_eqb, le-leb}
use Rattle.types.specs.declared.block.BlockState.TheVariants.{None}
use Rattle.model.specs.Lists.{any, from, range, range_down, filter, each, len, reversed}
use Rattle.model.specs.State.{DownloadingPiece, same_block_state}
use Rattle.model.specs.change.Partials.{block_at}
use Rattle.model.specs.pick.Blocks.{piece_block, free_from}
use Rattle.agreement.specs.Complete.{is_given}
use Rattle.agreement.proofs.complete.Giving.{any_front, any_back}

-- n numbers from k on
pub stands_from : (i k n : ℕ) → k ≤ i → i < k + n → any (eqb i) (from k n) ≡ true
unfolding any from
stands_from i k zero h g = absurd (omega arith)
stands_from i k (suc n) h g = elim (ℕ_discrete i k) [
  | yes e ↦ rw (eq-eqb i k e)
  | no e ↦ rw (ne_eqb i k e) (stands_from i (suc k) n (omega arith) (omega arith))
]

-- a range
pub stands_range : (i k end : ℕ) → k ≤ i → i < end → any (eqb i) (range k end) ≡ true
unfolding range
stands_range i k end h g = stands_from i k (end - k) h (omega arith)

-- a range downwards
pub stands_down : (i k end : ℕ) → k ≤ i → i < end → any (eqb i) (range_down k end) ≡ true
unfolding any range_down
stands_down i k zero h g = absurd (omega arith)
stands_down i k (suc end) h g = rw (le-leb k end (omega arith)) (elim (ℕ_discrete i end) [
  | yes e ↦ rw (eq-eqb i end e)
  | no e ↦ rw (ne_eqb i end e) (stands_down i k end h (omega arith))
])

module _ {A : Type 0} (t : A → Bool) where
  -- the first or the rest
  pub any_cons : (x : A) (l : List A) → any t (x ∷ l) ≡ true → (t x ≡ true) ⊎ (any t l ≡ true)
  unfolding any
  any_cons x l h = go (t x) h
    where
      go : (b : Bool) → (b || any t l) ≡ true → (b ≡ true) ⊎ (any t l ≡ true)
      go true e = inl refl
      go false e = inr e

  any_first : (x : A) (l : List A) → t x ≡ true → any t (x ∷ l) ≡ true
  unfolding any
  any_first x l h = rw h

  any_rest : (x : A) (l : List A) → any t l ≡ true → any t (x ∷ l) ≡ true
  unfolding any
  any_rest x l h = any_back t (x ∷ []) l h

  -- the other way round
  pub any-reversed : (l : List A) → any t l ≡ true → any t (reversed l) ≡ true
  unfolding reversed
  any-reversed [] h = h
  any-reversed (x ∷ l) h =
      ⊎_elim (λ e. any_back t (reversed l) (x ∷ []) (any_first x [] e)) (λ e. any_front t (reversed l) (x ∷ []) (any-reversed l e))
      (any_cons x l h)

  -- among those that pass another test, which the one looked for passes
  pub any-filter : (u : A → Bool) → ((x : A) → t x ≡ true → u x ≡ true) → (l : List A) → any t l ≡ true → any t (filter u l) ≡ true
  unfolding filter
  any-filter u f [] h = h
  any-filter u f (x ∷ l) h =
      ⊎_elim (λ e. rw (f x e) (any_first x (filter u l) e)) (λ e. go (u x) (any-filter u f l e)) (any_cons x l h)
    where
      go : (b : Bool) → any t (filter u l) ≡ true → any t (cond b (x ∷ filter u l) (filter u l)) ≡ true
      go true g = any_rest x (filter u l) g
      go false g = g

none_there : {A : Type 0} (t : A → Bool) → any t [] ≡ true → ⊥
unfolding any
none_there t h = true≢false (sym h)

module _ {A B : Type 0} (t : A → Bool) (u : B → Bool) (f : A → B) (h : (x : A) → t x ≡ true → u (f x) ≡ true) where
  -- among what a function gives
  pub any-each : (l : List A) → any t l ≡ true → any u (each f l) ≡ true
  unfolding each
  any-each [] g = absurd (none_there t g)
  any-each (x ∷ l) g =
      ⊎_elim (λ e. any_first u (f x) (each f l) (h x e)) (λ e. any_rest u (f x) (each f l) (any-each l e)) (any_cons t x l g)

-- ---- the free blocks of a partial
-- the block that is turned onto block j
turned : (j first n : ℕ) → j < n → (k : ℕ) × (k < n) × ((k + first) % n ≡ j)
turned j first n h =
    let r = mod-lt first {m = n} (omega arith) in
    let e = div-add-mod' first n in
    elim (dec_le (first % n) j) [
      | yes l ↦ (j - first % n, omega arith, ap (λ (x : ℕ). x % n) (up l e) ∙ digits_mod (first / n) h)
      | no l ↦ (j + n - first % n, omega arith, ap (λ (x : ℕ). x % n) (round r l e) ∙ digits_mod (suc (first / n)) h)
    ]
  where
    up : first % n ≤ j → first / n * n + first % n ≡ first → j - first % n + first ≡ first / n * n + j
    up l e = omega arith

    round : first % n < n → (first % n ≤ j → ⊥) → first / n * n + first % n ≡ first → j + n - first % n + first ≡ suc (first / n) * n + j
    round r l e = omega arith

module _ (d : DownloadingPiece) (j : ℕ) (h : j < len d.blocks) (free : same_block_state (block_at d j).state None ≡ true) where
  -- it is taken from whatever block the walk starts
  pub stands_free : (first : ℕ) → any (eqb j) (free_from d first) ≡ true
  unfolding free_from
  stands_free first =
      let n = len d.blocks in
      let x = turned j first n h in
      any-filter (eqb j) (λ k. same_block_state (block_at d k).state None) (λ k e. rw (sym (eqb-true j k e)) free)
      (each (λ k. (k + first) % n) (from 0 n))
      (any-each (eqb x.0) (eqb j) (λ k. (k + first) % n) (λ k e. eq-eqb j ((k + first) % n) (onto x k (eqb-true x.0 k e))) (from 0 n)
      (stands_from x.0 0 n (omega arith) (let l = x.1 in omega arith)))
    where
      onto : (x : (k : ℕ) × (k < len d.blocks) × ((k + first) % len d.blocks ≡ j)) (k : ℕ) → x.0 ≡ k
          → j ≡ (k + first) % len d.blocks
      onto x k e = rw (sym e) (sym x.2)

-- the blocks of piece i
pub given_each : (i j : ℕ) (js : List ℕ) → any (eqb j) js ≡ true → is_given i j (each (piece_block i) js) ≡ true
unfolding is_given piece_block
given_each i j js h =
    any-each (eqb j) (λ b. eqb b.piece i && eqb b.block j) (piece_block i)
    (λ k e. rw (eq-eqb i i refl, eq-eqb k j (sym (eqb-true j k e)))) js h
