-- One turn of the loop of `pull`: the last of the next group goes to the place that is free, and its own place is free then.
-- Assumes nothing.
use mathlib.Core.Path.{◌≡◌, refl, sym, ap, ◌∙◌}
use mathlib.Core.Logic.{◌≢◌}
use mathlib.Core.List.{List, [], ◌∷◌, ◌++◌, append_assoc}
use Prim.Native.Nat.{ℕ, suc, ◌+◌, ◌-◌, ◌≤◌, ◌<◌}
use native.Mathlib.Decide.{dec_le}
use native.Mathlib.Omega.{arith}
use lib.ListN.{length, get_or, set, take, drop, length-set, take-append-drop, get_or-map}
use lib.Seq.{slice, slice-cons, slice_empty, length-slice, take-take, take-set-lt, drop-set-lt, drop-append-le, length-take-le, set_split}
use lib.Seq.{get_or-take, get_or-drop}
use borrow.Author.Tests.{eq-eqb, ne_eqb}
use Rattle.model.specs.list.Order.{bring, turn_right}
use Rattle.model.proofs.list.GroupTurns.{stirred_right, length_keys}
use Rattle.list_entries.specs.Words.{listed_rank, top_of}
use Rattle.list_groups.specs.Places.{Rises, Parted}
use Rattle.list_moves.specs.Moves.{pulled}
use Rattle.list_entries.proofs.WordLaws.{under_top, over_top}
use Rattle.list_groups.proofs.Searching.{rises_splits, rises_within, parted_all}
use Rattle.list_moves.proofs.Carrying.{rises_set}

-- ---- a group turned right
module _ (r : ℕ → ℕ) where
  -- in front of another rank nothing moves
  bring_other : (y : ℕ) (l : List ℕ) → (0 < length l → r (get_or l 0 0) ≢ r y) → bring r y l ≡ y ∷ l
  unfolding bring
  bring_other y [] h = refl
  bring_other y (z ∷ zs) h = simp (ne_eqb (r y) (r z) (λ e. h (omega arith) (sym e)))

  -- turned groups have the ranks they had, so the first has
  turned_first : (l : List ℕ) → r (get_or (turn_right r l) 0 0) ≡ r (get_or l 0 0)
  turned_first l =
      sym (get_or-map r (turn_right r l) 0 0) ∙ ap (λ (cs : List ℕ). get_or cs 0 (r 0)) (stirred_right r l).keys ∙ get_or-map r l 0 0

  turned_length : (l : List ℕ) → length (turn_right r l) ≡ length l
  turned_length l = length_keys r l (turn_right r l) (stirred_right r l).keys

  -- the group's last, y, goes to its front
  turn_group : (y : ℕ) (g rest : List ℕ) → ((k : ℕ) → k < length g → r (get_or g k 0) ≡ r y) → (0 < length rest → r (get_or rest 0 0) ≢ r y)
      → turn_right r (g ++ (y ∷ rest)) ≡ y ∷ (g ++ turn_right r rest)
  unfolding turn_right bring
  turn_group y [] rest all other =
      bring_other y (turn_right r rest) (λ h e. other (omega (arith, turned_length rest)) (sym (turned_first rest) ∙ e))
  turn_group y (z ∷ g) rest all other =
      ap (bring r z) (turn_group y g rest (λ k h. all (suc k) (omega arith)) other) ∙ simp (eq-eqb (r z) (r y) (all 0 (omega arith)))

-- ---- places
-- a slice in two
slice_split : (a c d : ℕ) (l : List ℕ) → a ≤ c → c ≤ d → d ≤ length l → slice a d l ≡ slice a c l ++ slice c d l
slice_split a c d l h g le =
    ap (drop a) (sym (take-append-drop c (take d l)))
    ∙ drop-append-le a (take c (take d l)) (drop c (take d l))
    (omega (arith, length-take-le c (take d l) (omega (arith, length-take-le d l le))))
    ∙ ap (λ (m : List ℕ). drop a m ++ slice c d l) (take-take c d l g)

slice_at : (a d k : ℕ) (l : List ℕ) → a + k < d → get_or (slice a d l) k 0 ≡ get_or l (a + k) 0
slice_at a d k l h = get_or-drop a (take d l) k 0 ∙ get_or-take d l (a + k) 0 h

-- the last of a group, at place p, goes to the free place, and p is free then
module _ (hole p last : ℕ) (l : List ℕ) (a : hole < p) (c : p ≤ last) (le : last < length l)
    (same : (k : ℕ) → hole < k → k < p → listed_rank (get_or l k 0) ≡ listed_rank (get_or l p 0))
    (other : p < last → listed_rank (get_or l (suc p) 0) ≢ listed_rank (get_or l p 0)) where
  abbrev y : ℕ
  y = get_or l p 0

  turned : turn_right listed_rank (slice (suc hole) (suc last) l)
      ≡ y ∷ (slice (suc hole) p l ++ turn_right listed_rank (slice (suc p) (suc last) l))
  turned =
      let lp : length (slice (suc hole) p l) ≡ p - suc hole = length-slice (suc hole) p l (omega arith) in
      let z : suc p + 0 ≡ suc p = omega arith in
      let ls : length (slice (suc p) (suc last) l) ≡ suc last - suc p = length-slice (suc p) (suc last) l (omega arith) in
      ap (turn_right listed_rank) (slice_split (suc hole) p (suc last) l (omega arith) (omega arith) (omega arith)
      ∙ ap (λ (m : List ℕ). slice (suc hole) p l ++ m) (slice-cons p (suc last) l 0 (omega arith) (omega arith)))
      ∙ turn_group listed_rank y (slice (suc hole) p l) (slice (suc p) (suc last) l)
      (λ k h. ap listed_rank (slice_at (suc hole) p k l (omega arith)) ∙ same (suc hole + k) (omega arith) (omega arith))
      (λ h e. other (omega arith) (ap listed_rank (sym (rw z at (slice_at (suc p) (suc last) 0 l (omega arith)))) ∙ e))

  pulled_next : pulled hole last l ≡ pulled p last (set l hole y)
  unfolding pulled
  pulled_next =
      let h1 : hole < suc p = omega arith in
      let h2 : hole < last = omega arith in
      let h3 : hole < suc last = omega arith in
      let h4 : hole < length (take p l) = omega (arith, length-take-le p l (omega arith)) in
      let h5 : hole ≤ p = omega arith in
      rw (
        turned,
        take-set-lt p l hole y,
        set_split (take p l) hole y,
        take-take hole p l,
        take-set-lt (suc last) l hole y,
        drop-set-lt (suc p) (take (suc last) l) hole y,
        drop-set-lt last l hole y,
        append_assoc,
      )
      (simp append_assoc)

-- ---- `pull`
-- what holds at the head of the loop, with `goal` to be made: what is left to pull over the free place
pub record Pulls (last : ℕ) (goal l₀ l : List ℕ) (hole near : ℕ) : Type 0 where
  pub left : pulled hole last l ≡ goal
  pub at : hole ≤ last
  pub rest : Rises (suc hole) (suc last) l
  pub some : 0 < near
  pub long : length l ≡ length l₀

module _ {last : ℕ} {goal l₀ l : List ℕ} {hole near : ℕ} (m : Pulls last goal l₀ l hole near) (h : last < length l₀) where
  -- the next group ends before `end`
  pub pulls_next : hole < last → (top end far : ℕ) → 0 < far → top ≡ top_of (listed_rank (get_or l (hole + 1) 0))
      → Parted top (hole + 2) (last + 1) l end end
      → Pulls last goal l₀ (set l hole (get_or l (end - 1) 0)) (end - 1) far
  pulls_next lt top end far some et s =
      let first = get_or l (hole + 1) 0 in
      let a = s.starts in
      let c = s.ends in
      let equal : (k : ℕ) → hole < k → k < end → listed_rank (get_or l k 0) ≡ listed_rank first =
      λ k f g. omega (
        arith,
        m.rest (hole + 1) k (omega arith) (omega arith) (omega arith),
        rank_of k f g,
      ) in
      record {
        left = sym (pulled_next hole (end - 1) last l (omega arith) (omega arith) (omega (arith, m.long))
            (λ k f g. equal k f (omega arith) ∙ sym (equal (end - 1) (omega arith) (omega arith)))
            (λ g e. absurd (omega (
              arith,
              over_top (listed_rank first) (get_or l (suc (end - 1)) 0)
                  (omega (arith, et, s.over (suc (end - 1)) (omega arith) (omega arith))),
              equal (end - 1) (omega arith) (omega arith),
            ))))
            ∙ m.left;
        at = omega arith;
        rest = rises_set hole (get_or l (end - 1) 0) (suc (end - 1)) (suc last) l (omega arith)
            (rises_within (suc hole) (suc last) (suc (end - 1)) (suc last) l (omega arith) (omega arith) m.rest);
        some = some;
        long = length-set l hole (get_or l (end - 1) 0) ∙ m.long;
      }
    where
      rank_of : (k : ℕ) → hole < k → k < end → listed_rank (get_or l k 0) ≤ listed_rank (get_or l (hole + 1) 0)
      rank_of k f g = elim (dec_le (hole + 2) k) [
        | yes q ↦ under_top (listed_rank (get_or l (hole + 1) 0)) (get_or l k 0) (omega (arith, et, s.under k q g))
        | no q ↦ (let e : k ≡ hole + 1 = omega arith in rw e (omega arith))
      ]

  -- with no group left all is done
  pub pulls_end : last ≤ hole → l ≡ goal
  unfolding pulled turn_right
  pulls_end q =
      let e : hole ≡ last = omega (arith, m.at) in
      sym (take-append-drop last l) ∙ (rw (e, slice_empty (suc last) l) at m.left)

-- ---- `pull_within`: the words behind k are one group, as its last one tells
pub pulled_whole : {top : ℕ} (k last : ℕ) (l : List ℕ) → k + 1 < last → last < length l → Rises (suc k) (suc last) l
    → top ≡ top_of (listed_rank (get_or l (k + 1) 0)) → get_or l last 0 ≤ top → set l k (get_or l last 0) ≡ pulled k last l
pulled_whole {top} k last l lt le rises et q =
    let rest = rises_within (suc k) (suc last) (k + 2) (last + 1) l (omega arith) (omega arith) rises in
    let e : last + 1 - 1 ≡ last = omega arith in
    let far : get_or l (last + 1 - 1) 0 ≤ top = rw e q in
    let all = parted_all (rises_splits top (listed_rank (get_or l (k + 1) 0)) (k + 2) (last + 1) l et rest) (omega arith) far in
    let start : Pulls last (pulled k last l) l l k 1 =
    record { left = refl; at = omega arith; rest = rises; some = omega arith; long = refl } in
    ap (λ (m : ℕ). set l k (get_or l m 0)) (sym e)
    ∙ pulls_end (pulls_next start le (omega arith) top (last + 1) 1 (omega arith) et all) le (omega arith)
