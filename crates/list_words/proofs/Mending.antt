-- What holds of a list of words in every arm of `update`, and what an arm leaves. Assumes nothing.
use mathlib.Core.Path.{◌≡◌, refl, sym, ap, ◌∙◌}
use mathlib.Core.Logic.{◌≢◌}
use mathlib.Core.Bool.{true}
use mathlib.Core.List.{List, [], ◌∷◌, ◌++◌, map}
use Prim.Native.Nat.{ℕ, zero, suc, ◌+◌, ◌≤◌, ◌<◌}
use native.Mathlib.Nat.{le_of_suc-le-suc}
use native.Mathlib.Decide.{ℕ_discrete}
use native.Mathlib.Omega.{arith}
use lib.Dec.{eqb}
use lib.ListN.{length, get_or, set, take, drop, length-map, get_or-map}
use lib.Seq.{get_or-take, length-take-le, take_at, drop_at}
use borrow.Author.Tests.{eq-eqb, ne_eqb}
use Rattle.model.specs.Lists.{count, len}
use Rattle.model.specs.list.Listed.{rising}
use Rattle.model.specs.list.Order.{updated, update_draws}
use Rattle.model.proofs.base.Counts.{eq_bit, ne_bit, stands}
use Rattle.model.proofs.list.GroupRise.{Rising, rising_is}
use Rattle.model.proofs.list.ListedMoves.{keys_same}
use Rattle.list_entries.specs.Words.{listed_piece, listed_rank, pieces_of}
use Rattle.list_groups.specs.Places.{Rises}
use Rattle.list_words.specs.Updating.{former, IsUpdated}
use Rattle.list_words.proofs.Natural.{Same, same_ranks, pieces_map}

-- ---- ranks that never fall, by places
rising_pair : (lo k m d : ℕ) (cs : List ℕ) → Rising lo cs → k ≤ m → m < length cs → (lo ≤ get_or cs m d) × (get_or cs k d ≤ get_or cs m d)
rising_pair lo k m d [] r h g = absurd (omega arith)
rising_pair lo zero zero d (c ∷ cs) r h g = (r.0, omega arith)
rising_pair lo zero (suc m) d (c ∷ cs) r h g =
    let e = rising_pair c 0 m d cs r.1 (omega arith) (le_of_suc-le-suc g) in (omega (arith, e.0, r.0), e.0)
rising_pair lo (suc k) zero d (c ∷ cs) r h g = absurd (omega arith)
rising_pair lo (suc k) (suc m) d (c ∷ cs) r h g =
    let e = rising_pair c k m d cs r.1 (le_of_suc-le-suc h) (le_of_suc-le-suc g) in (omega (arith, e.0, r.0), e.1)

-- a list whose ranks never fall, among all words
pub rises_of : (n : ℕ) (l : List ℕ) → n ≤ length l → rising listed_rank (take n l) ≡ true → Rises 0 n l
rises_of n l le order k m a h g =
    let cs = map listed_rank (take n l) in
    let e = (rising_pair 0 k m (listed_rank 0) cs ((rising_is listed_rank (take n l)).0 order) h
    (omega (arith, length-map (take n l) listed_rank, length-take-le n l le))).1 in
    let ek = get_or-map listed_rank (take n l) k 0 ∙ ap listed_rank (get_or-take n l k 0 (omega arith)) in
    let em = get_or-map listed_rank (take n l) m 0 ∙ ap listed_rank (get_or-take n l m 0 g) in
    omega (arith, e, ek, em)

-- ---- the ranks as they were
module _ (r : ℕ → ℕ) (old i : ℕ) where
  -- i had the old rank
  pub former_same : former r old i i ≡ old
  unfolding former
  former_same = rw (eq-eqb i i refl)

  -- any other piece has the rank it had
  pub former_other : (other : ℕ) → other ≢ i → former r old i other ≡ r other
  unfolding former
  former_other other n = rw (ne_eqb other i n)

  -- where i stands at one place only, they are the new ones but there
  pub former_keys : (ps : List ℕ) (k : ℕ) → k < length ps → get_or ps k 0 ≡ i → count (eqb i) ps ≡ 1
      → map (former r old i) ps ≡ set (map r ps) k old
  unfolding count
  former_keys [] k h q e = absurd (omega arith)
  former_keys (p ∷ ps) zero h q e =
      rw (ap (former r old i) q ∙ former_same)
      (ap (λ (cs : List ℕ). old ∷ cs) (keys_same r (former r old i) ps
      (λ z g. former_other z (λ (f : z ≡ i). let c : 1 ≤ count (eqb i) ps = rw f at g in absurd (omega (arith, eq_bit i p (sym q)))))))
  former_keys (p ∷ ps) (suc k) h q e = elim (ℕ_discrete p i) [
    | yes f ↦ absurd (omega (arith, eq_bit i p (sym f), stands i 0 ps k (le_of_suc-le-suc h) q))
    | no f ↦ rw (former_other p f)
        (ap (λ (cs : List ℕ). r p ∷ cs) (former_keys ps k (le_of_suc-le-suc h) q (omega (arith, ne_bit i p (λ g. f (sym g))))))
  ]

-- ---- what an arm leaves
module _ (r : ℕ → ℕ) (draws : List ℕ) (used old i : ℕ) (ws words : List ℕ) where
  -- a list of words that has the pieces and their ranks, before what was there
  pub arm : (ws' words' : List ℕ) (m next : ℕ) → words' ≡ ws' ++ drop m words → length ws' ≡ m
      → map listed_piece ws' ≡ updated r draws used old i (pieces_of ws) → Same r ws' → next ≡ used + update_draws r old i (pieces_of ws)
      → IsUpdated r draws used old i ws words words' m next
  unfolding len
  arm ws' words' m next e long pieces same next_is =
      let t : take m words' ≡ ws' = ap (take m) e ∙ take_at ws' (drop m words) m long in
      record {
        pieces = ap pieces_of t ∙ pieces_map ws' ∙ pieces;
        ranks = rw t (same_ranks r ws' same);
        length = sym long ∙ sym (length-map ws' listed_piece) ∙ ap length pieces;
        behind = ap (drop m) e ∙ drop_at ws' (drop m words) m long;
        next_is = next_is;
      }
