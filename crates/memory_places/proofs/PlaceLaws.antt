-- The places that live rows have, marked; the lowest that is free is there, and is no row's. Assumes nothing.
use mathlib.Core.Path.{◌≡◌, refl, sym, ap, subst, ◌∙◌}
use mathlib.Core.Logic.{◌≢◌}
use mathlib.Core.Bool.{Bool, true, false, cond, not, ◌&&◌, ◌||◌, or-true, or-false}
use mathlib.Core.List.{List, [], ◌∷◌, ◌++◌}
use Prim.Native.Nat.{ℕ, zero, suc, ◌+◌, ◌-◌, ◌≤◌, ◌<◌}
use native.Mathlib.Nat.{le_of_suc-le-suc, not-suc-le-zero}
use native.Mathlib.Numerals.{add-one}
use native.Mathlib.Decide.{ℕ_discrete, dec_le}
use native.Mathlib.Omega.{arith}
use lib.Dec.{eqb}
use lib.ListN.{length, get_or, set, replicate, length-replicate, get_or-replicate, length-set}
use lib.Seq.{get_or-set_same, get_or-set_other}
use borrow.Author.Tests.{eq-eqb, ne_eqb, not-true, not-false, eqb-false}
use Rattle.model.specs.Lists.{len, any, filter, member}
use Rattle.model.proofs.base.Truths.{both_true}
use Rattle.memory_records.specs.Records.{place_of, first_from}
use Rattle.memory_records.specs.Rows.{row_at}
use Rattle.memory_layout.specs.Tables.{tabulate}
use Rattle.memory_layout.proofs.TableLaws.{tabulate_more, tabulate-len}
use Rattle.memory_places.specs.Places.{places_taken, lowest_free, Marked, unmarked_from, marked_through}

-- ---- marks
pub marked_none : Marked [] (replicate 512 false)
unfolding member any
marked_none = record { long = length-replicate 512 false; mark = λ p h. get_or-replicate 512 p false false h }

pub marked_start : (rows : List ℕ) (marks : List Bool) → Marked [] marks → Marked (places_taken 0 rows) marks
unfolding places_taken tabulate
marked_start rows marks m = m

-- a list with one more
member_more : (x y : ℕ) (l : List ℕ) → member x (l ++ (y ∷ [])) ≡ (member x l || eqb x y)
unfolding member any
member_more x y [] = or-false (eqb x y)
member_more x y (z ∷ zs) = go (eqb x z) (member_more x y zs)
  where
    go : (t : Bool) → member x (zs ++ (y ∷ [])) ≡ (member x zs || eqb x y)
        → (t || any (eqb x) (zs ++ (y ∷ []))) ≡ ((t || any (eqb x) zs) || eqb x y)
    go true e = refl
    go false e = e

pub marked_next : (rows : List ℕ) (marks : List Bool) (k q : ℕ) → Marked (places_taken k rows) marks → q ≡ (row_at rows k).info_idx → q < 512
    → Marked (places_taken (k + 1) rows) (set marks q true)
unfolding places_taken
marked_next rows marks k q m e h = record { long = length-set marks q true ∙ m.long; mark = mark }
  where
    mark : (p : ℕ) → p < 512 → get_or (set marks q true) p false ≡ member p (tabulate (k + 1) (λ l. (row_at rows l).info_idx))
    mark p l =
        rw (add-one, tabulate_more k (λ l. (row_at rows l).info_idx), member_more, ← e) (elim (ℕ_discrete p q) [
          | yes y ↦
              ap (λ (i : ℕ). get_or (set marks q true) i false) y
              ∙ get_or-set_same marks q true false (omega (arith, m.long))
              ∙ sym (rw (eq-eqb p q y, or-true))
          | no n ↦ get_or-set_other marks q p true false n ∙ m.mark p l ∙ sym (rw (ne_eqb p q n, or-false))
        ])

pub marked_end : (rows : List ℕ) (marks : List Bool) (k live : ℕ) → Marked (places_taken k rows) marks → k ≡ live
    → Marked (places_taken live rows) marks
marked_end rows marks k live m e = subst (λ (n : ℕ). Marked (places_taken n rows) marks) e m

-- ---- an upward search
module _ (test : ℕ → Bool) where
  pub from_here : (t k : ℕ) → test k ≡ true → first_from test (suc t) k ≡ k
  from_here t k e = ap (λ (b : Bool). place_of b k (first_from test t (suc k))) e

  pub from_next : (t k : ℕ) → test k ≡ false → first_from test (suc t) k ≡ first_from test t (suc k)
  from_next t k e = ap (λ (b : Bool). place_of b k (first_from test t (suc k))) e

  -- where it stops before the end, the test holds
  first_holds : (t k : ℕ) → first_from test t k < k + t → test (first_from test t k) ≡ true
  first_holds zero k h = absurd (omega arith)
  first_holds (suc t) k h = go (test k) refl (first_holds t (suc k))
    where
      go : (b : Bool) → test k ≡ b → (first_from test t (suc k) < suc k + t → test (first_from test t (suc k)) ≡ true)
          → test (first_from test (suc t) k) ≡ true
      go true e again = ap test (from_here t k e) ∙ e
      go false e again = ap test (from_next t k e) ∙ again (omega (arith, h, from_next t k e))

  -- where it ends, the test holds nowhere
  first_none : (t k : ℕ) → k + t ≤ first_from test t k → (p : ℕ) → k ≤ p → p < k + t → test p ≡ false
  first_none zero k h p l m = absurd (omega arith)
  first_none (suc t) k h p l m = go (test k) refl (λ a b c. first_none t (suc k) a p b c)
    where
      go : (b : Bool) → test k ≡ b → (suc k + t ≤ first_from test t (suc k) → suc k ≤ p → p < suc k + t → test p ≡ false) → test p ≡ false
      go true e again = absurd (omega (arith, h, from_here t k e))
      go false e again = elim (ℕ_discrete k p) [
        | yes q ↦ ap test (sym q) ∙ e
        | no n ↦ again (omega (arith, h, from_next t k e)) (omega arith) (omega arith)
      ]

-- two tests that agree on the way
first_same : (a b : ℕ → Bool) (t k : ℕ) → ((p : ℕ) → p < k + t → a p ≡ b p) → first_from a t k ≡ first_from b t k
first_same a b zero k h = refl
first_same a b (suc t) k h =
    ap (λ (x : Bool). place_of x k (first_from a t (suc k))) (h k (omega arith))
    ∙ ap (λ (q : ℕ). place_of (b k) k q) (first_same a b t (suc k) (λ p l. h p (omega arith)))

-- ---- the first place without a mark, at place p of n
module _ (marks : List Bool) where
  pub unmarked_stops : (n p : ℕ) → p < n → get_or marks p false ≡ false → unmarked_from marks (n - p) p ≡ p
  unfolding unmarked_from
  unmarked_stops n p h e = rw left (from_here (λ q. not (get_or marks q false)) (n - suc p) p (ap not e))
    where
      left : n - p ≡ suc (n - suc p)
      left = omega arith

  pub unmarked_goes : (n p : ℕ) → p < n → get_or marks p false ≡ true
      → unmarked_from marks (n - p) p ≡ unmarked_from marks (n - (p + 1)) (p + 1)
  unfolding unmarked_from
  unmarked_goes n p h e = rw (left, add-one) (from_next (λ q. not (get_or marks q false)) (n - suc p) p (ap not e))
    where
      left : n - p ≡ suc (n - suc p)
      left = omega arith

  pub unmarked_ends : (n p : ℕ) → n ≤ p → unmarked_from marks (n - p) p ≡ p
  unfolding unmarked_from
  unmarked_ends n p h = rw none_left refl
    where
      none_left : n - p ≡ 0
      none_left = omega arith

  pub unmarked_starts : (n : ℕ) → unmarked_from marks (n - 0) 0 ≡ unmarked_from marks n 0
  unmarked_starts n = ap (λ (t : ℕ). unmarked_from marks t 0) whole
    where
      whole : n - 0 ≡ n
      whole = omega arith

-- ---- a stretch of places
module _ (marks : List Bool) where
  pub through_start : (p : ℕ) → true ≡ marked_through marks 0 p
  unfolding marked_through
  through_start p = refl

  pub through_end : (k t p : ℕ) → k ≡ t → marked_through marks k p ≡ marked_through marks t p
  through_end k t p e = ap (λ (n : ℕ). marked_through marks n p) e

  pub through_more : (k p : ℕ) → (marked_through marks k p && get_or marks (p + k) false) ≡ marked_through marks (k + 1) p
  unfolding marked_through
  through_more k p = rw add-one refl

  -- where all of its places are marked, the search goes on behind it
  pub through_goes : (t n p : ℕ) → p + t ≤ n → marked_through marks t p ≡ true
      → unmarked_from marks (n - p) p ≡ unmarked_from marks (n - (p + t)) (p + t)
  unfolding marked_through
  through_goes zero n p h e = ap (λ (q : ℕ). unmarked_from marks (n - q) q) same
    where
      same : p ≡ p + 0
      same = omega arith
  through_goes (suc t) n p h e =
      let b = both_true (marked_through marks t p) (get_or marks (p + t) false) e in
      through_goes t n p (omega arith) b.0
      ∙ unmarked_goes marks n (p + t) (omega arith) b.1
      ∙ ap (λ (q : ℕ). unmarked_from marks (n - q) q) next
    where
      next : (p + t) + 1 ≡ p + suc t
      next = omega arith

pub lowest_is : (taken : List ℕ) (marks : List Bool) (places : ℕ) → Marked taken marks → places ≤ 512
    → unmarked_from marks places 0 ≡ lowest_free places taken
unfolding lowest_free unmarked_from
lowest_is taken marks places m h =
    first_same (λ p. not (get_or marks p false)) (λ p. not (member p taken)) places 0 (λ p l. ap not (m.mark p (omega arith)))

-- ---- as many places as are taken, and one more
module _ (x : ℕ) where
  abbrev other : (y : ℕ) → Bool
  other y = not (eqb x y)

  shorter : (l : List ℕ) → length (filter other l) ≤ length l
  unfolding filter
  shorter [] = omega arith
  shorter (y ∷ ys) = go (other y) (shorter ys)
    where
      go : (t : Bool) → length (filter other ys) ≤ length ys → length (cond {A = List ℕ} t (y ∷ filter other ys) (filter other ys))
          ≤ suc (length ys)
      go true h = omega (arith, h)
      go false h = omega (arith, h)

  shorter_by_one : (l : List ℕ) → member x l ≡ true → length (filter other l) < length l
  unfolding filter member any
  shorter_by_one [] e = absurd (let z : ◌≡◌ {A = ℕ} 0 1 = cc in omega arith)
  shorter_by_one (y ∷ ys) e = go (eqb x y) e (shorter_by_one ys)
    where
      go : (t : Bool) → (t || any (eqb x) ys) ≡ true → (any (eqb x) ys ≡ true → length (filter other ys) < length ys)
          → length (cond {A = List ℕ} (not t) (y ∷ filter other ys) (filter other ys)) < suc (length ys)
      go true m again = omega (arith, shorter ys)
      go false m again = omega (arith, again m)

  still_there : (p : ℕ) → p ≢ x → (l : List ℕ) → member p l ≡ true → member p (filter other l) ≡ true
  unfolding filter member any
  still_there p n [] e = e
  still_there p n (y ∷ ys) e = elim (ℕ_discrete x y) [
    | yes q ↦ rw (eq-eqb x y q) (still_there p n ys (rw (ne_eqb p y (λ z. n (z ∙ sym q))) at e))
    | no q ↦ rw (ne_eqb x y q) (go (eqb p y) e (still_there p n ys))
  ]
    where
      go : (t : Bool) → (t || any (eqb p) ys) ≡ true → (any (eqb p) ys ≡ true → any (eqb p) (filter other ys) ≡ true)
          → (t || any (eqb p) (filter other ys)) ≡ true
      go true m again = refl
      go false m again = again m

pigeonhole : (n : ℕ) (l : List ℕ) → ((p : ℕ) → p < n → member p l ≡ true) → n ≤ length l
pigeonhole zero l h = omega arith
pigeonhole (suc n) l h =
    omega (
      arith,
      shorter_by_one n l (h n (omega arith)),
      pigeonhole n (filter (other n) l) (λ p m. still_there n p (λ e. omega arith) l (h p (omega arith))),
    )

-- the lowest free place is there
pub lowest_there : (places : ℕ) (taken : List ℕ) → length taken < places → lowest_free places taken < places
unfolding lowest_free
lowest_there places taken h = elim (dec_le places (first_from (λ p. not (member p taken)) places 0)) [
  | yes e ↦ absurd (omega (
    arith,
    pigeonhole places taken (λ p l.
        not-false (member p taken) (first_none (λ p. not (member p taken)) places 0 (omega arith) p (omega arith) (omega arith))),
  ))
  | no n ↦ omega arith
]

-- and is not taken
lowest_free_lem : (places : ℕ) (taken : List ℕ) → lowest_free places taken < places → member (lowest_free places taken) taken ≡ false
unfolding lowest_free
lowest_free_lem places taken h =
    not-true (member (first_from (λ p. not (member p taken)) places 0) taken)
    (first_holds (λ p. not (member p taken)) places 0 (omega arith))

-- ---- of rows
taken_long : (live : ℕ) (rows : List ℕ) → length (places_taken live rows) ≡ live
unfolding places_taken len
taken_long live rows = tabulate-len live (λ k. (row_at rows k).info_idx)

pub place_there : (places live : ℕ) (rows : List ℕ) → live < places → lowest_free places (places_taken live rows) < places
place_there places live rows h = lowest_there places (places_taken live rows) (omega (arith, taken_long live rows))

pub none_of : (n : ℕ) (f : ℕ → ℕ) (x : ℕ) → member x (tabulate n f) ≡ false → (k : ℕ) → k < n → f k ≢ x
unfolding member any tabulate
none_of zero f x e k h = absurd (not-suc-le-zero h)
none_of (suc n) f x e k h = go (eqb x (f 0)) refl e k h (λ a l m. none_of n (λ k. f (suc k)) x a l m)
  where
    go : (t : Bool) → eqb x (f 0) ≡ t → (t || any (eqb x) (tabulate n (λ k. f (suc k)))) ≡ false → (k : ℕ) → k < suc n
        → (any (eqb x) (tabulate n (λ k. f (suc k))) ≡ false → (l : ℕ) → l < n → f (suc l) ≢ x) → f k ≢ x
    go true a b k l again = absurd (let z : ◌≡◌ {A = ℕ} 0 1 = cc in omega arith)
    go false a b zero l again = λ q. eqb-false x (f 0) a (sym q)
    go false a b (suc k) l again = again b k (le_of_suc-le-suc l)

-- no live row has it
pub place_free : (places live : ℕ) (rows : List ℕ) → live < places → (k : ℕ) → k < live
    → (row_at rows k).info_idx ≢ lowest_free places (places_taken live rows)
unfolding places_taken
place_free places live rows h =
    none_of live (λ k. (row_at rows k).info_idx) (lowest_free places (places_taken live rows))
    (lowest_free_lem places (places_taken live rows) (place_there places live rows h))
