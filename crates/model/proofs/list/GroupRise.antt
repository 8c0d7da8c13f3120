-- Ranks never fall: laws on lists of ranks, with one put in at its group or taken out.
use mathlib.Core.Path.{◌≡◌, refl}
use mathlib.Core.Logic.{inl, inr, ◌↔◌}
use Prim.Native.Nat.{ℕ, zero, suc, ◌+◌, ◌≤◌, ◌<◌}
use native.Mathlib.Nat.{le_of_suc-le-suc}
use native.Mathlib.Decide.{dec_le}
use native.Mathlib.Omega.{arith}
use mathlib.Core.Bool.{true}
use mathlib.Core.List.{List, [], ◌∷◌, map}
use lib.ListN.{length, get_or, set}
use lib.Dec.{eqb, ltb, leb}
use borrow.Author.Tests.{leb-true, le-leb}
use Rattle.model.specs.Lists.{count, remove_nth}
use Rattle.model.specs.list.Listed.{rising_from, rising}
use Rattle.model.proofs.base.Counts.{three, lt_bit, ge_bit, eq_bit, ne_bit}
use Rattle.model.proofs.list.GroupTurns.{entered}
use Rattle.model.proofs.base.Truths.{both_true}

-- how many ranks are below k
unfoldable pub below : ℕ → List ℕ → ℕ
below k cs = count (λ c. ltb c k) cs

-- how many are k
unfoldable pub equal : ℕ → List ℕ → ℕ
equal k cs = count (λ c. eqb c k) cs

-- from lo on, none below the one before
abbrev pub Rising : ℕ → List ℕ → Type 0
Rising lo [] = Unit {0}
Rising lo (c ∷ cs) = (lo ≤ c) × Rising c cs

-- ---- the test says it
from_test : (b : ℕ → ℕ) (lo : ℕ) (l : List ℕ) → rising_from b lo l ≡ true → Rising lo (map b l)
unfolding rising_from
from_test b lo [] h = tt
from_test b lo (x ∷ xs) h =
    let e = both_true (leb lo (b x)) (rising_from b (b x) xs) h in (leb-true lo (b x) e.0, from_test b (b x) xs e.1)

to_test : (b : ℕ → ℕ) (lo : ℕ) (l : List ℕ) → Rising lo (map b l) → rising_from b lo l ≡ true
unfolding rising_from
to_test b lo [] r = refl
to_test b lo (x ∷ xs) r = rw (le-leb lo (b x) r.0) (to_test b (b x) xs r.1)

-- the test `rising` passes where the ranks do not fall
pub rising_is : (b : ℕ → ℕ) (l : List ℕ) → (rising b l ≡ true) ↔ Rising 0 (map b l)
unfolding rising
rising_is b l = (from_test b 0 l, to_test b 0 l)

-- what does not fall from lo on does not from a lower one on
pub rising_from_lem : (lo lo' : ℕ) (cs : List ℕ) → lo' ≤ lo → Rising lo cs → Rising lo' cs
rising_from_lem lo lo' [] h r = tt
rising_from_lem lo lo' (c ∷ cs) h r = (omega (arith, r.0), r.1)

-- from k on none is below k
pub none_below : (k : ℕ) (cs : List ℕ) → Rising k cs → below k cs ≡ 0
unfolding below count
none_below k [] r = refl
none_below k (c ∷ cs) r = omega (arith, ge_bit c k r.0, none_below k cs (rising_from_lem c k cs r.0 r.1))

-- from above k on none is k
pub none_at : (k lo : ℕ) (cs : List ℕ) → k < lo → Rising lo cs → equal k cs ≡ 0
unfolding equal count
none_at k lo [] h r = refl
none_at k lo (c ∷ cs) h r = let q = r.0 in omega (arith, ne_bit c k (omega arith), none_at k lo cs h (rising_from_lem c lo cs q r.1))

-- k put in at a place of its group, or behind it
pub rising_entered : (k lo p : ℕ) (cs : List ℕ) → Rising lo cs → lo ≤ k → below k cs ≤ p → p ≤ below k cs + equal k cs → Rising lo (entered p k cs)
unfolding below equal count entered
rising_entered k lo zero [] r a h g = (a, tt)
rising_entered k lo (suc p) [] r a h g = absurd (omega arith)
rising_entered k lo zero (c ∷ cs) r a h g = (a, (elim (dec_le k c) [ yes q ↦ q | no n ↦ absurd (omega (arith, lt_bit c k (omega arith))) ], r.1))
rising_entered k lo (suc p) (c ∷ cs) r a h g = elim (three c k) [
  | inl q ↦ (r.0, rising_entered k c p cs r.1 (omega arith) (omega (arith, lt_bit c k q)) (omega (arith, lt_bit c k q, ne_bit c k (omega arith))))
  | inr s ↦ elim s [
    | inl q ↦ (
      r.0,
      rising_entered k c p cs r.1 (omega arith) (omega (arith, ge_bit c k (omega arith), none_below k cs (rising_from_lem c k cs (omega arith) r.1)))
          (omega (arith, ge_bit c k (omega arith), eq_bit c k q)),
    )
    | inr q ↦ absurd (omega (arith, ge_bit c k (omega arith), ne_bit c k (omega arith), none_below k cs (rising_from_lem c k cs (omega arith) r.1), none_at k c cs q r.1))
  ]
]

-- a place taken out
pub rising_without : (lo i : ℕ) (cs : List ℕ) → Rising lo cs → Rising lo (remove_nth i cs)
unfolding remove_nth
rising_without lo zero [] r = tt
rising_without lo (suc i) [] r = tt
rising_without lo zero (c ∷ cs) r = rising_from_lem c lo cs r.0 r.1
rising_without lo (suc i) (c ∷ cs) r = (r.0, rising_without c i cs r.1)

-- at the places of its group stands k
pub group_at : (k lo j d : ℕ) (cs : List ℕ) → Rising lo cs → below k cs ≤ j → j < below k cs + equal k cs → get_or cs j d ≡ k
unfolding below equal count
group_at k lo j d [] r h g = absurd (omega arith)
group_at k lo zero d (c ∷ cs) r h g = elim (three c k) [
  | inl q ↦ absurd (omega (arith, lt_bit c k q))
  | inr s ↦ elim s [
    | inl q ↦ q
    | inr q ↦ absurd (omega (arith, ne_bit c k (omega arith), none_at k c cs q r.1))
  ]
]
group_at k lo (suc j) d (c ∷ cs) r h g = elim (three c k) [
  | inl q ↦ group_at k c j d cs r.1 (omega (arith, lt_bit c k q)) (omega (arith, lt_bit c k q, ne_bit c k (omega arith)))
  | inr s ↦ elim s [
    | inl q ↦ group_at k c j d cs r.1 (omega (arith, none_below k cs (rising_from_lem c k cs (omega arith) r.1))) (omega (arith, ge_bit c k (omega arith), eq_bit c k q))
    | inr q ↦ absurd (omega (arith, ge_bit c k (omega arith), ne_bit c k (omega arith), none_below k cs (rising_from_lem c k cs (omega arith) r.1), none_at k c cs q r.1))
  ]
]

-- the group's end is within the list
pub group_in : (k : ℕ) (cs : List ℕ) → below k cs + equal k cs ≤ length cs
unfolding below equal count
group_in k [] = omega arith
group_in k (c ∷ cs) = elim (three c k) [
  | inl q ↦ omega (arith, group_in k cs, lt_bit c k q, ne_bit c k (omega arith))
  | inr s ↦ elim s [
    | inl q ↦ omega (arith, group_in k cs, ge_bit c k (omega arith), eq_bit c k q)
    | inr q ↦ omega (arith, group_in k cs, ge_bit c k (omega arith), ne_bit c k (omega arith))
  ]
]

-- where place i had a higher rank than k, k's group ends at or before it
pub group_before : (k old lo i : ℕ) (cs : List ℕ) → i < length cs → Rising lo (set cs i old) → k < old → below k (remove_nth i cs) + equal k (remove_nth i cs) ≤ i
unfolding below equal count remove_nth
group_before k old lo i [] h r q = absurd (omega arith)
group_before k old lo zero (c ∷ cs) h r q = omega (arith, none_below k cs (rising_from_lem old k cs (omega arith) r.1), none_at k old cs q r.1)
group_before k old lo (suc i) (c ∷ cs) h r q = elim (three c k) [
  | inl p ↦ omega (arith, group_before k old c i cs (le_of_suc-le-suc h) r.1 q, lt_bit c k p, ne_bit c k (omega arith))
  | inr s ↦ elim s [
    | inl p ↦ omega (arith, group_before k old c i cs (le_of_suc-le-suc h) r.1 q, ge_bit c k (omega arith), eq_bit c k p)
    | inr p ↦ omega (arith, group_before k old c i cs (le_of_suc-le-suc h) r.1 q, ge_bit c k (omega arith), ne_bit c k (omega arith))
  ]
]

rising_at : (lo i old : ℕ) (cs : List ℕ) → i < length cs → Rising lo (set cs i old) → lo ≤ old
rising_at lo i old [] h r = absurd (omega arith)
rising_at lo zero old (c ∷ cs) h r = r.0
rising_at lo (suc i) old (c ∷ cs) h r = omega (arith, r.0, rising_at c i old cs (le_of_suc-le-suc h) r.1)

-- where it had a lower one, k's group starts at or behind it
pub group_behind : (k old lo i : ℕ) (cs : List ℕ) → i < length cs → Rising lo (set cs i old) → old < k → i ≤ below k (remove_nth i cs)
unfolding below count remove_nth
group_behind k old lo i [] h r q = absurd (omega arith)
group_behind k old lo zero (c ∷ cs) h r q = omega arith
group_behind k old lo (suc i) (c ∷ cs) h r q =
    let a : c ≤ old = rising_at c i old cs (le_of_suc-le-suc h) r.1 in
    omega (arith, group_behind k old c i cs (le_of_suc-le-suc h) r.1 q, lt_bit c k (omega arith))
