-- The records follow from the answer: lists that are the same answer have as many records, of the same words. Assumes nothing.
use mathlib.Core.Path.{◌≡◌, refl, sym, ap, ◌∙◌}
use mathlib.Core.Bool.{Bool, true, false, cond, ◌&&◌, ◌||◌}
use mathlib.Core.List.{List, [], ◌∷◌, ◌++◌}
use mathlib.Core.Option.{Option, none, some}
use Prim.Native.Nat.{ℕ, zero, suc, ◌<◌}
use native.Mathlib.Omega.{arith}
use borrow.Author.Tests.{eqb-true}
use lib.Dec.{eqb}
use Rattle.model.specs.Lists.{nth, every, concat_map}
use Rattle.model.specs.ask.Questions.{numbers, stale_list}
use Rattle.model.proofs.base.Truths.{both_true}
use Rattle.memory_layout.specs.Tables.{tabulate}
use Rattle.memory_layout.specs.Decode.{yes?, peer_from}
use Rattle.ask_records.specs.Records.{words_at, told, peer_pair, peer_read, block_read, tells?, told_reply}

-- ---- one pair
pairs_same : (h p h' p' : ℕ) → peer_pair h p ≡ true → peer_pair h' p' ≡ true → peer_from h p ≡ peer_from h' p'
    → (h ≡ h') × (p ≡ p')
unfolding peer_pair peer_from yes?
pairs_same h p h' p' a b e = go (eqb h 1) (eqb h' 1) refl refl a b e
  where
    go : (t u : Bool) → eqb h 1 ≡ t → eqb h' 1 ≡ u → (t || (eqb h 0 && eqb p 0)) ≡ true → (u || (eqb h' 0 && eqb p' 0)) ≡ true
        → cond t (some p) none ≡ cond u (some p') none → (h ≡ h') × (p ≡ p')
    go true true q r a b e = (eqb-true h 1 q ∙ sym (eqb-true h' 1 r), cc)
    go true false q r a b e = let z : ◌≡◌ {A = ℕ} 0 1 = cc in absurd (omega arith)
    go false true q r a b e = let z : ◌≡◌ {A = ℕ} 0 1 = cc in absurd (omega arith)
    go false false q r a b e =
        let x = both_true (eqb h 0) (eqb p 0) a in
        let y = both_true (eqb h' 0) (eqb p' 0) b in
        (eqb-true h 0 x.0 ∙ sym (eqb-true h' 0 y.0), eqb-true p 0 x.1 ∙ sym (eqb-true p' 0 y.1))

-- ---- records one after another
tells_ok : (t : Bool) (l : List (Option ℕ)) → tells? (cond t l []) ≡ true → t ≡ true
unfolding tells?
tells_ok true l h = refl
tells_ok false l h = h

-- what tells something is not empty
not_empty : (l rest : List (Option ℕ)) → tells? l ≡ true → [] ≡ l ++ rest → ⊥
unfolding tells?
not_empty [] rest h e = let z : ◌≡◌ {A = ℕ} 0 1 = cc in omega arith
not_empty (x ∷ l) rest h e = let z : ◌≡◌ {A = ℕ} 0 1 = cc in omega arith

from_both : (P : ℕ → Type 0) (n : ℕ) → P zero → ((j : ℕ) → j < n → P (suc j)) → (j : ℕ) → j < suc n → P j
from_both P n first rest zero h = first
from_both P n first rest (suc j) h = rest j (omega arith)

module _ (ok : List ℕ → Bool) (part : List ℕ → List (Option ℕ)) (Same : List ℕ → List ℕ → Type 0)
    (exact : (x y : List ℕ) (ls ms : List (Option ℕ)) → ok x ≡ true → ok y ≡ true → part x ++ ls ≡ part y ++ ms
    → Same x y × (ls ≡ ms)) where
  abbrev read : List ℕ → List (Option ℕ)
  read x = cond (ok x) (part x) []

  follow : (n m : ℕ) (f g : ℕ → List ℕ) → every (λ r. tells? (read r)) (tabulate n f) ≡ true
      → every (λ r. tells? (read r)) (tabulate m g) ≡ true → concat_map read (tabulate n f) ≡ concat_map read (tabulate m g)
      → (n ≡ m) × ((j : ℕ) → j < n → Same (f j) (g j))
  unfolding tabulate every concat_map
  follow zero zero f g a b e = (refl, λ j h. absurd (omega arith))
  follow zero (suc m) f g a b e = absurd (not_empty (read (g zero)) _ (both_true (tells? (read (g zero))) _ b).0 e)
  follow (suc n) zero f g a b e = absurd (not_empty (read (f zero)) _ (both_true (tells? (read (f zero))) _ a).0 (sym e))
  follow (suc n) (suc m) f g a b e =
      let x = both_true (tells? (read (f zero))) _ a in
      let y = both_true (tells? (read (g zero))) _ b in
      let p = tells_ok (ok (f zero)) (part (f zero)) x.0 in
      let q = tells_ok (ok (g zero)) (part (g zero)) y.0 in
      let ls = concat_map read (tabulate n (λ j. f (suc j))) in
      let ms = concat_map read (tabulate m (λ j. g (suc j))) in
      let s = exact (f zero) (g zero) ls ms p q
      (sym (ap (λ (t : Bool). cond t (part (f zero)) [] ++ ls) p) ∙ e ∙ ap (λ (t : Bool). cond t (part (g zero)) [] ++ ms) q) in
      let r = follow n m (λ j. f (suc j)) (λ j. g (suc j)) x.1 y.1 s.1 in
      (ap suc r.0, from_both (λ j. Same (f j) (g j)) n s.0 r.1)

-- ---- the answers
reply_told : (t : Bool) (ns ms : List (Option ℕ)) → cond t (numbers ns) stale_list ≡ numbers ms → (t ≡ true) × (ns ≡ ms)
reply_told true ns ms e = (refl, cc)
reply_told false ns ms e = let z : ◌≡◌ {A = ℕ} 0 1 = cc in absurd (omega arith)

module _ (n m : ℕ) (a b : List ℕ) (ns : List (Option ℕ)) where
  pub peers_follow : told_reply 2 peer_read n a ≡ numbers ns → told_reply 2 peer_read m b ≡ numbers ns
      → (n ≡ m) × ((j : ℕ) → j < n → words_at 2 a j ≡ words_at 2 b j)
  unfolding told_reply told peer_read words_at tabulate nth
  peers_follow e d =
      let x = reply_told _ _ _ e in
      let y = reply_told _ _ _ d in
      let r = follow (λ w. peer_pair (nth 0 w 0) (nth 0 w 1)) (λ w. peer_from (nth 0 w 0) (nth 0 w 1) ∷ [])
      (λ w v. (nth 0 w 0 ≡ nth 0 v 0) × (nth 0 w 1 ≡ nth 0 v 1))
      (λ w v ls ms p q h. (pairs_same _ _ _ _ p q cc, cc))
      n m (words_at 2 a) (words_at 2 b) x.0 y.0 (x.1 ∙ sym y.1) in
      (r.0, λ j h k. (r.1 j h).0 k ∷ (r.1 j h).1 k ∷ [])

  pub blocks_follow : told_reply 4 block_read n a ≡ numbers ns → told_reply 4 block_read m b ≡ numbers ns
      → (n ≡ m) × ((j : ℕ) → j < n → words_at 4 a j ≡ words_at 4 b j)
  unfolding told_reply told block_read words_at tabulate nth
  blocks_follow e d =
      let x = reply_told _ _ _ e in
      let y = reply_told _ _ _ d in
      let r = follow (λ w. peer_pair (nth 0 w 2) (nth 0 w 3))
      (λ w. some (nth 0 w 0) ∷ some (nth 0 w 1) ∷ peer_from (nth 0 w 2) (nth 0 w 3) ∷ [])
      (λ w v. ((nth 0 w 0 ≡ nth 0 v 0) × (nth 0 w 1 ≡ nth 0 v 1)) × ((nth 0 w 2 ≡ nth 0 v 2) × (nth 0 w 3 ≡ nth 0 v 3)))
      (λ w v ls ms p q h. (((cc, cc), pairs_same _ _ _ _ p q cc), cc))
      n m (words_at 4 a) (words_at 4 b) x.0 y.0 (x.1 ∙ sym y.1) in
      (r.0, λ j h k. (r.1 j h).0.0 k ∷ (r.1 j h).0.1 k ∷ (r.1 j h).1.0 k ∷ (r.1 j h).1.1 k ∷ [])
