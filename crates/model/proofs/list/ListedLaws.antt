-- What a list holds that has each piece with a rank once, ranks never falling: its length, and what stands where.
use mathlib.Core.Path.{◌≡◌, refl, sym, ap, ap₂, ◌∙◌}
use mathlib.Core.Logic.{inl, inr}
use Prim.Native.Nat.{ℕ, zero, suc, ◌≤◌, ◌<◌}
use native.Mathlib.Nat.{le_of_suc-le-suc}
use native.Mathlib.Decide.{dec_le}
use native.Mathlib.Omega.{arith}
use mathlib.Core.Bool.{Bool, true, false}
use mathlib.Core.List.{List, [], ◌∷◌, map}
use lib.ListN.{length, get_or, get_or-map, length-map}
use lib.Dec.{eqb, ltb}
use Rattle.model.specs.Lists.{bit, count, filter, from, nth, member, place_of}
use Rattle.model.specs.list.Listed.{Permuted, Listed}
use Rattle.model.proofs.base.Counts.{three, lt_bit, ge_bit, eq_bit, ne_bit, bit_le, count_le, count-map, stands, place_in, at_place}
use Rattle.model.proofs.base.Counts.{place_only, no_place, some_count, counts_permuted, permuted_length, length-filter, length-from}
use Rattle.model.proofs.base.Counts.{filter_within, filter_beyond}
use Rattle.model.proofs.list.GroupRise.{equal, Rising, rising_is, none_at}

-- ---- ranks that do not fall
rising_ge : (lo i d : ℕ) (cs : List ℕ) → Rising lo cs → i < length cs → lo ≤ get_or cs i d
rising_ge lo i d [] r h = absurd (omega arith)
rising_ge lo zero d (c ∷ cs) r h = r.0
rising_ge lo (suc i) d (c ∷ cs) r h = omega (arith, r.0, rising_ge c i d cs r.1 (le_of_suc-le-suc h))

rising_pair : (lo i j d : ℕ) (cs : List ℕ) → Rising lo cs → i ≤ j → j < length cs → get_or cs i d ≤ get_or cs j d
rising_pair lo i j d [] r h g = absurd (omega arith)
rising_pair lo zero zero d (c ∷ cs) r h g = omega arith
rising_pair lo zero (suc j) d (c ∷ cs) r h g = rising_ge c j d cs r.1 (le_of_suc-le-suc g)
rising_pair lo (suc i) zero d (c ∷ cs) r h g = absurd (omega arith)
rising_pair lo (suc i) (suc j) d (c ∷ cs) r h g = rising_pair c i j d cs r.1 (le_of_suc-le-suc h) (le_of_suc-le-suc g)

-- two lists of ranks that do not fall, with each rank as often, are one
rising_same : (lo lo' : ℕ) (cs ds : List ℕ) → Rising lo cs → Rising lo' ds → ((k : ℕ) → equal k cs ≡ equal k ds) → cs ≡ ds
unfolding equal count
rising_same lo lo' [] [] r s f = refl
rising_same lo lo' [] (d ∷ ds) r s f = absurd (omega (arith, f d, eq_bit d d refl))
rising_same lo lo' (c ∷ cs) [] r s f = absurd (omega (arith, f c, eq_bit c c refl))
rising_same lo lo' (c ∷ cs) (d ∷ ds) r s f = elim (three c d) [
  | inl q ↦ absurd (omega (arith, f c, eq_bit c c refl, ne_bit d c (omega arith), none_at c d ds q s.1))
  | inr p ↦ elim p [
    | inl q ↦ ap₂ (λ (v : ℕ) (vs : List ℕ). v ∷ vs) q (rising_same c d cs ds r.1 s.1 (λ k. omega (arith, f k, ap (λ (v : ℕ). bit (eqb v k)) q)))
    | inr q ↦ absurd (omega (arith, f d, eq_bit d d refl, ne_bit c d (omega arith), none_at d c cs q r.1))
  ]
]

ltb-bit : (t : Bool) → ltb 0 (bit t) ≡ t
ltb-bit true = refl
ltb-bit false = refl

module _ (b : ℕ → ℕ) (n : ℕ) (l : List ℕ) (g : Listed b n l) where
  rises : Rising 0 (map b l)
  rises = (rising_is b l).0 g.order

  -- ---- how many
  -- the list is the pieces with a rank above 0, in some order
  pub listed_permuted : Permuted (filter (λ i. ltb 0 (b i)) (from 0 n)) l
  listed_permuted = counts_permuted (filter (λ i. ltb 0 (b i)) (from 0 n)) l (λ i. elim (dec_le n i) [
    | yes p ↦ g.beyond i p ∙ sym (filter_beyond (λ i. ltb 0 (b i)) i n p)
    | no p ↦ (let h : i < n = omega arith in g.within i h ∙ sym (filter_within (λ i. ltb 0 (b i)) i n h))
  ])

  -- it is as long as there are such pieces
  pub listed_length : length l ≡ count (λ i. ltb 0 (b i)) (from 0 n)
  listed_length = permuted_length (filter (λ i. ltb 0 (b i)) (from 0 n)) l listed_permuted ∙ length-filter (λ i. ltb 0 (b i)) (from 0 n)

  -- and no longer than there are pieces
  pub listed_length_le : length l ≤ n
  listed_length_le = omega (arith, listed_length, count_le (λ i. ltb 0 (b i)) (from 0 n), length-from 0 n)

  -- ---- what stands where
  -- nothing stands in it twice
  pub listed_once : (x : ℕ) → count (eqb x) l ≤ 1
  listed_once x = elim (dec_le n x) [
    | yes p ↦ omega (arith, g.beyond x p)
    | no p ↦ omega (arith, g.within x (omega arith), bit_le (ltb 0 (b x)))
  ]

  -- at a place within it stands a piece
  pub listed_at_lt : (i : ℕ) → i < length l → nth 0 l i < n
  unfolding nth
  listed_at_lt i h = elim (dec_le n (get_or l i 0)) [
    | yes p ↦ absurd (omega (arith, g.beyond (get_or l i 0) p, stands (get_or l i 0) 0 l i h refl))
    | no p ↦ omega arith
  ]

  -- of a rank above 0
  pub listed_at_rank : (i : ℕ) → i < length l → 0 < b (nth 0 l i)
  unfolding nth
  listed_at_rank i h = elim (dec_le (b (get_or l i 0)) 0) [
    | yes p ↦ absurd (omega (arith, g.within (get_or l i 0) (listed_at_lt i h), ge_bit 0 (b (get_or l i 0)) p, stands (get_or l i 0) 0 l i h refl))
    | no p ↦ omega arith
  ]

  -- a later place has no lower rank
  pub listed_at_le : (i j : ℕ) → i ≤ j → j < length l → b (nth 0 l i) ≤ b (nth 0 l j)
  unfolding nth
  listed_at_le i j h k =
      omega (arith, rising_pair 0 i j (b 0) (map b l) rises h (omega (arith, length-map l b)), get_or-map b l i 0, get_or-map b l j 0)

  -- the place of what stands at a place
  pub listed_place_at : (i : ℕ) → i < length l → place_of (nth 0 l i) l ≡ i
  unfolding nth
  listed_place_at i h = place_only (get_or l i 0) 0 l i (listed_once (get_or l i 0)) h refl

  module _ (x : ℕ) (h : x < n) where
    -- a piece is in the list if its rank is above 0
    pub listed_member : member x l ≡ ltb 0 (b x)
    unfolding member
    listed_member = some_count (eqb x) l ∙ ap (ltb 0) (g.within x h) ∙ ltb-bit (ltb 0 (b x))

    -- then its place is within the list
    pub listed_place : 0 < b x → place_of x l < length l
    listed_place k = place_in x l (omega (arith, g.within x h, lt_bit 0 (b x) k))

    -- and it stands there
    pub listed_at_place : 0 < b x → nth 0 l (place_of x l) ≡ x
    unfolding nth
    listed_at_place k = at_place x 0 l (omega (arith, g.within x h, lt_bit 0 (b x) k))

    -- and otherwise it has no place
    pub listed_no_place : b x ≡ 0 → place_of x l ≡ length l
    listed_no_place k = no_place x l (g.within x h ∙ ge_bit 0 (b x) (omega arith))

-- ---- two lists for the same ranks
module _ (b : ℕ → ℕ) (n : ℕ) (l m : List ℕ) (g : Listed b n l) (h : Listed b n m) where
  -- they hold the same pieces
  pub listed_both : Permuted l m
  listed_both t = listed_permuted b n m h t ∙ sym (listed_permuted b n l g t)

  -- and have the same rank at each place
  pub listed_ranks : map b m ≡ map b l
  unfolding equal
  listed_ranks = rising_same 0 0 (map b m) (map b l) (rises b n m h) (rises b n l g)
      (λ k. count-map (λ c. eqb c k) b m ∙ listed_both (λ x. eqb (b x) k) ∙ sym (count-map (λ c. eqb c k) b l))
