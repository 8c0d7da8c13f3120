-- The span around a piece that can be picked has only pieces that can be picked. Assumes nothing.
use mathlib.Core.Path.{◌≡◌, refl, subst, sym}
use mathlib.Core.Logic.{⊎_elim}
use Prim.Native.Nat.{ℕ, zero, suc, ◌+◌, ◌-◌, ◌≤◌, ◌<◌}
use native.Mathlib.Omega.{arith}
use mathlib.Core.Bool.{Bool, true, false, cond}
use Rattle.model.specs.Lists.{least}
use Rattle.model.specs.State.{Picker, pieces_in}
use Rattle.model.specs.Options.{align_expanded_pieces}
use Rattle.model.specs.pick.Blocks.{PickRequest, option, can_pick, down_by, up_by, alone, lowest_start, span_from, span_of, pieces_of}
use Rattle.model.proofs.base.Counts.{three}
use Rattle.agreement.proofs.given.EachLaws.{Each, each_range, each_so}

module _ (a : PickRequest) (s : Picker) where
  down_can : (n i k : ℕ) → down_by a s n i ≤ k → k < i → can_pick a s k ≡ true
  unfolding down_by
  down_can zero i k l h = absurd (omega arith)
  down_can (suc n) i k l h = go (can_pick a s (i - 1)) refl (down_can n (i - 1) k) l
    where
      go : (b : Bool) → can_pick a s (i - 1) ≡ b → (down_by a s n (i - 1) ≤ k → k < i - 1 → can_pick a s k ≡ true)
          → cond b (down_by a s n (i - 1)) i ≤ k → can_pick a s k ≡ true
      go true e f m =
          ⊎_elim (λ x. f m x) (λ y. ⊎_elim (λ x. subst (λ (j : ℕ). can_pick a s j ≡ true) (sym x) e) (λ x. absurd (omega arith)) y)
          (three k (i - 1))
      go false e f m = absurd (omega arith)

  up_can : (n j k : ℕ) → j ≤ k → k < up_by a s n j → can_pick a s k ≡ true
  unfolding up_by
  up_can zero j k l h = absurd (omega arith)
  up_can (suc n) j k l h = go (can_pick a s j) refl (up_can n (suc j) k) h
    where
      go : (b : Bool) → can_pick a s j ≡ b → (suc j ≤ k → k < up_by a s n (suc j) → can_pick a s k ≡ true)
          → k < cond b (up_by a s n (suc j)) j → can_pick a s k ≡ true
      go true e f m =
          ⊎_elim (λ x. absurd (omega arith))
          (λ y. ⊎_elim (λ x. subst (λ (i : ℕ). can_pick a s i ≡ true) (sym x) e) (λ x. f (omega arith) m) y) (three k j)
      go false e f m = absurd (omega arith)

  -- each piece between the ends
  span_can : (i n k : ℕ) → can_pick a s i ≡ true → (span_of a s i n).first ≤ k → k < (span_of a s i n).end → can_pick a s k ≡ true
  unfolding span_of alone span_from
  span_can i zero k h l m = let e : i ≡ k = omega arith in subst (λ (j : ℕ). can_pick a s j ≡ true) e h
  span_can i (suc n) k h l m =
      let lowest = lowest_start a i (suc n) in
      let first = down_by a s (i - lowest) i in
      let end = least (cond (option align_expanded_pieces a) lowest first + suc n) (pieces_in s) in
      ⊎_elim (λ x. down_can (i - lowest) i k l x)
      (λ y. ⊎_elim (λ x. subst (λ (j : ℕ). can_pick a s j ≡ true) (sym x) h) (λ x. up_can (end - suc i) (suc i) k (omega arith) m) y)
      (three k i)

  pub span_each : (i n : ℕ) → can_pick a s i ≡ true → Each (λ k. can_pick a s k ≡ true) (pieces_of (span_of a s i n))
  unfolding pieces_of
  span_each i n h =
      let x = span_of a s i n in
      each_so (λ k g. span_can i n k h g.0 g.1) _ (each_range x.first x.end)
