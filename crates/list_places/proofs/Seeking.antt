-- One turn of the loop of `pass_fours`, where a word is found, and what the start of a group tells of a word of it. Assumes nothing.
use mathlib.Core.Path.{◌≡◌, refl, sym, ap, ◌∙◌, subst}
use mathlib.Core.Logic.{◌≢◌}
use mathlib.Core.Bool.{Bool, true, false, ◌||◌}
use mathlib.Core.List.{List, [], ◌∷◌}
use Prim.Native.Nat.{ℕ, zero, suc, ◌+◌, ◌-◌, ◌≤◌, ◌<◌}
use native.Mathlib.Nat.{le_of_suc-le-suc}
use native.Mathlib.Decide.{dec_le, ℕ_discrete}
use native.Mathlib.Omega.{arith}
use lib.ListN.{length, get_or, take, drop, length-drop}
use Rattle.std.specs.Prelude.{Option, Some}
use Rattle.std.specs.List.{position_from}
use Rattle.std.proofs.lemmas.List.{drop-take}
use lib.Seq.{get_or-take, length-take-le}
use lib.Dec.{eqb}
use borrow.Author.Tests.{eq-eqb, ne_eqb, eqb-false}
use Rattle.model.specs.Lists.{place_of}
use Rattle.list_entries.specs.Words.{listed_rank, top_of}
use Rattle.list_entries.proofs.WordLaws.{top_below, under_top, over_top}
use Rattle.list_groups.specs.Places.{Parted}

-- what stands at the first place of a rank is of no lower one
pub start_rank : {rank from end : ℕ} {l : List ℕ} {top low : ℕ} → 0 < rank → top ≡ top_of rank → Parted (top - 65536) from end l low low
    → low < end → rank ≤ listed_rank (get_or l low 0)
start_rank {rank} {from} {end} {l} {top} {low} h et s lt =
    omega (arith, over_top (rank - 1) (get_or l low 0) (omega (arith, top_below et h, s.over low (omega arith) lt)))

-- a word of the list stands at its place
pub place_there : (w : ℕ) (l : List ℕ) → place_of w l < length l → get_or l (place_of w l) 0 ≡ w
unfolding place_of
place_there w [] h = absurd (omega arith)
place_there w (v ∷ l) h = elim (ℕ_discrete w v) [
  | yes e ↦ rw (eq-eqb w v e) (sym e)
  | no e ↦ (let q = ne_eqb w v e in rw q (place_there w l (le_of_suc-le-suc (rw q at h))))
]

-- before its place the word does not stand
pub place_first : (w k : ℕ) (l : List ℕ) → k < place_of w l → get_or l k 0 ≢ w
unfolding place_of
place_first w k [] h e = absurd (omega arith)
place_first w zero (v ∷ l) h e = let z : 0 < 0 = rw (eq-eqb w v (sym e)) at h in absurd (omega arith)
place_first w (suc k) (v ∷ l) h e = elim (ℕ_discrete w v) [
  | yes q ↦ (let z : suc k < 0 = rw (eq-eqb w v q) at h in absurd (omega arith))
  | no q ↦ place_first w k l (le_of_suc-le-suc (rw (ne_eqb w v q) at h)) e
]

-- the first that passes the test for the word stands at its place
position_place : (w i : ℕ) (l : List ℕ) → place_of w l < length l → position_from (λ v. eqb w v) i l ≡ Some (i + place_of w l)
unfolding place_of
position_place w i [] h = absurd (omega arith)
position_place w i (v ∷ l) h = elim (ℕ_discrete w v) [
  | yes e ↦ (let z : i ≡ i + 0 = omega arith in rw (eq-eqb w v e) (ap Some z))
  | no e ↦ (
      let n = ne_eqb w v e in
      let z : i + 1 + place_of w l ≡ i + suc (place_of w l) = omega arith in
      rw n (position_place w (i + 1) l (le_of_suc-le-suc (rw n at h)) ∙ ap Some z)
      )
]

-- its place in a list without the first n
place_drop : (w n : ℕ) (l : List ℕ) → n ≤ place_of w l → n + place_of w (drop n l) ≡ place_of w l
unfolding place_of
place_drop w zero l h = omega arith
place_drop w (suc n) [] h = absurd (omega arith)
place_drop w (suc n) (v ∷ l) h = elim (ℕ_discrete w v) [
  | yes e ↦ (let z : suc n ≤ 0 = rw (eq-eqb w v e) at h in absurd (omega arith))
  | no e ↦ rw (ne_eqb w v e) (omega (arith, place_drop w n l (le_of_suc-le-suc (rw (ne_eqb w v e) at h))))
]

-- the word is found from a place on before which it does not stand
pub found_from : (w n end : ℕ) (l : List ℕ) → end ≤ length l → n ≤ place_of w (take end l) → place_of w (take end l) < end
    → (k : ℕ) × (position_from (λ v. eqb w v) 0 (take (end - n) (drop n l)) ≡ Some k) × (n + k ≡ place_of w (take end l))
found_from w n end l le ahead inside =
    let xs = take (end - n) (drop n l) in
    let s : n + (end - n) ≡ end = omega arith in
    let part : drop n (take end l) ≡ xs = rw s at (drop-take n (end - n) l) in
    let here : n + place_of w xs ≡ place_of w (take end l) = rw part at (place_drop w n (take end l) ahead) in
    let long : length xs ≡ end - n = length-take-le (end - n) (drop n l) (omega (arith, length-drop n l)) in
    let z : 0 + place_of w xs ≡ place_of w xs = omega arith in
    (place_of w xs, position_place w 0 xs (omega arith) ∙ ap Some z, here)

-- none of four tests that are joined
none_of_four : (a b c d : Bool) → (((a || b) || c) || d) ≡ false → (a ≡ false) × (b ≡ false) × (c ≡ false) × (d ≡ false)
none_of_four false false false d h = (refl, refl, refl, h)
none_of_four false false true d h = let z : ◌≡◌ {A = ℕ} 0 1 = cc in absurd (omega arith)
none_of_four false true c d h = let z : ◌≡◌ {A = ℕ} 0 1 = cc in absurd (omega arith)
none_of_four true b c d h = let z : ◌≡◌ {A = ℕ} 0 1 = cc in absurd (omega arith)

-- what holds at the head of the loop: the word does not stand before k
pub record Seeks (w end : ℕ) (l : List ℕ) (k : ℕ) : Type 0 where
  pub ahead : k ≤ place_of w (take end l)
  pub inside : place_of w (take end l) < end

module _ (w end : ℕ) (l : List ℕ) (le : end ≤ length l) where
  there : place_of w (take end l) < end → get_or l (place_of w (take end l)) 0 ≡ w
  there h = sym (get_or-take end l (place_of w (take end l)) 0 h) ∙ place_there w (take end l) (omega (arith, length-take-le end l le))

  -- at the start of its group
  pub seeks_start : {top k : ℕ} → 0 < listed_rank w → place_of w (take end l) < end → top ≡ top_of (listed_rank w)
      → Parted (top - 65536) 0 end l k k
      → Seeks w end l k
  seeks_start {top} {k} h inside et s = record {
    ahead = elim (dec_le k (place_of w (take end l))) [
      | yes q ↦ q
      | no q ↦ (
          let f : w ≤ top - 65536 = rw (there inside) at (s.under (place_of w (take end l)) (omega arith) (omega arith)) in
          absurd (omega (arith, under_top (listed_rank w - 1) w (omega (arith, top_below et h))))
          )
    ];
    inside = inside;
  }

  -- another word stands at k
  pub seeks_next : {k : ℕ} → Seeks w end l k → get_or l k 0 ≢ w → Seeks w end l (k + 1)
  seeks_next {k} s n = record {
    ahead = elim (ℕ_discrete k (place_of w (take end l))) [
      | yes e ↦ absurd (n (ap (λ (m : ℕ). get_or l m 0) e ∙ there s.inside))
      | no e ↦ omega (arith, s.ahead)
    ];
    inside = s.inside;
  }

  -- none of four is the word
  pub seeks_fours : {k : ℕ} → Seeks w end l k
      → (((eqb (get_or l k 0) w || eqb (get_or l (k + 1) 0) w) || eqb (get_or l (k + 2) 0) w) || eqb (get_or l (k + 3) 0) w) ≡ false
      → Seeks w end l (k + 4)
  seeks_fours {k} s h =
      let is : (m : ℕ) → Bool = λ m. eqb (get_or l m 0) w in
      let n = none_of_four (is k) (is (k + 1)) (is (k + 2)) (is (k + 3)) h in
      let other : (m : ℕ) → eqb (get_or l m 0) w ≡ false → get_or l m 0 ≢ w = λ m e. eqb-false (get_or l m 0) w e in
      let a = seeks_next s (other k n.0) in
      let b = seeks_next a (other (k + 1) n.1) in
      let c = seeks_next (at_sum b (omega arith)) (other (k + 2) n.2) in
      at_sum (seeks_next (at_sum c (omega arith)) (other (k + 3) n.3)) (omega arith)
    where
      at_sum : {i j : ℕ} → Seeks w end l i → i ≡ j → Seeks w end l j
      at_sum x e = subst (Seeks w end l) e x

  -- where the word stands is its place
  pub seeks_found : {k : ℕ} → Seeks w end l k → get_or l k 0 ≡ w → k ≡ place_of w (take end l)
  seeks_found {k} s e = elim (dec_le (place_of w (take end l)) k) [
    | yes q ↦ omega (arith, s.ahead)
    | no q ↦ absurd (place_first w k (take end l) (omega arith) (get_or-take end l k 0 (omega (arith, s.inside)) ∙ e))
  ]
