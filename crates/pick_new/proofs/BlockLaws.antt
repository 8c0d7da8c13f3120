-- The loops over the blocks of a piece, by what is left. Assumes nothing.
use mathlib.Core.Path.{◌≡◌, refl, sym, ap, subst, ◌∙◌}
use mathlib.Core.Bool.{Bool, true, false, ◌&&◌}
use mathlib.Core.List.{List}
use Prim.Native.Nat.{ℕ, ◌+◌, ◌-◌, ◌*◌, ◌≤◌, ◌<◌}
use native.Mathlib.Omega.{arith}
use lib.ListN.{length, set}
use lib.Dec.{eqb}
use Rattle.model.specs.Lists.{from, range, for_each, walk}
use Rattle.model.specs.State.{Picker}
use Rattle.model.specs.pick.Blocks.{took, with_out, spent, contiguous_is_zero, contiguous_met}
use Rattle.pick_state.specs.declared.numbers.PickNumbers.{PickNumbers}
use Rattle.pick_state.specs.PickStates.{contiguous_of, state_of, OutDid}
use Rattle.pick_state.proofs.RestLaws.{OutRest, out_start, out_next, out_end, out_last}
use Rattle.pick_state.proofs.TakeLaws.{took_did}
use Rattle.pick_state.proofs.RangeLaws.{range_all, each_next, each_none, walk_next, walk_stop, walk_none}
use Rattle.pick_new.specs.Taken.{taken_numbers}

-- run and N after a block, from the numbers
met_took : (i j : ℕ) {t r : PickNumbers} {out out' : List ℕ} → OutDid (took i j) 1 t r out out'
    → (start : ℕ) (d : Picker) (aside : List ℕ) (ignored : List Bool) (loops : List ℕ)
    → contiguous_met (took i j (state_of start d t out aside ignored loops)) ≡ (contiguous_is_zero (contiguous_of r) && eqb r.left 0)
unfolding contiguous_met spent took with_out state_of
met_took i j {t = t} {out = out} y start d aside ignored loops =
    sym (ap contiguous_met (y.is t.end d aside ignored loops (omega arith)))

-- ---- a step for each block
module _ (i n : ℕ) (t : PickNumbers) (out : List ℕ) where
  pub blocks_start : OutRest (for_each (took i) (from 0 n)) (for_each (took i) (range 0 n)) 0 t t out out
  blocks_start = rw (range_all n) (out_start (for_each (took i) (from 0 n)) t out)

  module _ {j : ℕ} {cur : PickNumbers} {out₁ : List ℕ} (c : OutRest (for_each (took i) (from 0 n)) (for_each (took i) (range j n)) j t cur out out₁) where
    pub blocks_next : {r : PickNumbers} {out₂ : List ℕ} → j < n → OutDid (took i j) 1 cur r out₁ out₂
        → OutRest (for_each (took i) (from 0 n)) (for_each (took i) (range (j + 1) n)) (j + 1) t r out out₂
    blocks_next h y =
        out_next c (for_each (took i) (range (j + 1) n)) y
        (λ start d aside ignored loops. each_next (took i) j n (state_of start d cur out₁ aside ignored loops) h)

    pub blocks_end : j ≤ n → n ≤ j → OutDid (for_each (took i) (from 0 n)) n t cur out out₁
    blocks_end l h = out_end c n l (λ start d aside ignored loops. each_none (took i) j n (state_of start d cur out₁ aside ignored loops) h)

-- ---- the same, the numbers told by how many blocks there are
pub taken_is : (t : PickNumbers) (n left : ℕ) → left ≡ t.left - n
    → record { left = left; asked = t.asked; given = t.given + n; used = t.used; flags = t.flags; end = t.end + n; aside = t.aside } ≡ taken_numbers n t
unfolding taken_numbers
taken_is t n left e =
    λ m. record { left = e m; asked = t.asked; given = t.given + n; used = t.used; flags = t.flags; end = t.end + n; aside = t.aside }

none_taken : (t : PickNumbers) → taken_numbers 0 t ≡ t
unfolding taken_numbers
none_taken t =
    let el : t.left - 0 ≡ t.left = omega arith in
    let eg : t.given + 0 ≡ t.given = omega arith in
    let ee : t.end + 0 ≡ t.end = omega arith in
    λ m. record { left = el m; asked = t.asked; given = eg m; used = t.used; flags = t.flags; end = ee m; aside = t.aside }

-- one block more
pub taken_step : (i : ℕ) (t : PickNumbers) (j : ℕ) (out : List ℕ) → j < 256 → t.end + j < length out → (w : ℕ) → w ≡ i * 65536 + j
    → OutDid (took i j) 1 (taken_numbers j t) (taken_numbers (j + 1) t) out (set out (t.end + j) w)
unfolding taken_numbers
taken_step i t j out l h w e =
    took_did (taken_numbers j t) (taken_numbers (j + 1) t) out i j w h l e (omega arith) refl (omega arith) refl refl (omega arith) refl

module _ (i n : ℕ) (t : PickNumbers) (out : List ℕ) where
  pub taken_start : OutRest (for_each (took i) (from 0 n)) (for_each (took i) (range 0 n)) 0 t (taken_numbers 0 t) out out
  taken_start =
      subst (λ (r : PickNumbers). OutRest (for_each (took i) (from 0 n)) (for_each (took i) (range 0 n)) 0 t r out out) (sym (none_taken t))
      (blocks_start i n t out)

  module _ {j : ℕ} {out₁ : List ℕ} (c : OutRest (for_each (took i) (from 0 n)) (for_each (took i) (range j n)) j t (taken_numbers j t) out out₁) where
    pub taken_end : j ≤ n → n ≤ j → (r : PickNumbers) → r ≡ taken_numbers n t → OutDid (for_each (took i) (from 0 n)) n t r out out₁
    taken_end l h r e =
        let k : n ≡ j = omega arith in
        subst (λ (v : PickNumbers). OutDid (for_each (took i) (from 0 n)) n t v out out₁) (sym (e ∙ ap (λ (m : ℕ). taken_numbers m t) k))
        (blocks_end i n t out c l h)

-- ---- up to where run and N are met
module _ (i n : ℕ) (t : PickNumbers) (out : List ℕ) where
  pub payload_start : OutRest (walk (took i) contiguous_met (from 0 n)) (walk (took i) contiguous_met (range 0 n)) 0 t t out out
  payload_start = rw (range_all n) (out_start (walk (took i) contiguous_met (from 0 n)) t out)

  module _ {j : ℕ} {cur : PickNumbers} {out₁ : List ℕ}
      (c : OutRest (walk (took i) contiguous_met (from 0 n)) (walk (took i) contiguous_met (range j n)) j t cur out out₁) where
    pub payload_next : {r : PickNumbers} {out₂ : List ℕ} → j < n → OutDid (took i j) 1 cur r out₁ out₂
        → (contiguous_is_zero (contiguous_of r) && eqb r.left 0) ≡ false
        → OutRest (walk (took i) contiguous_met (from 0 n)) (walk (took i) contiguous_met (range (j + 1) n)) (j + 1) t r out out₂
    payload_next h y e =
        out_next c (walk (took i) contiguous_met (range (j + 1) n)) y
        (λ start d aside ignored loops. walk_next (took i) j n (state_of start d cur out₁ aside ignored loops) contiguous_met h
        (met_took i j y start d aside ignored loops ∙ e))

    pub payload_stop : {r : PickNumbers} {out₂ : List ℕ} → j < n → OutDid (took i j) 1 cur r out₁ out₂
        → (contiguous_is_zero (contiguous_of r) && eqb r.left 0) ≡ true → OutDid (walk (took i) contiguous_met (from 0 n)) n t r out out₂
    payload_stop h y e =
        out_last c n y (omega arith)
        (λ start d aside ignored loops. walk_stop (took i) j n (state_of start d cur out₁ aside ignored loops) contiguous_met h
        (met_took i j y start d aside ignored loops ∙ e))

    pub payload_end : j ≤ n → n ≤ j → OutDid (walk (took i) contiguous_met (from 0 n)) n t cur out out₁
    payload_end l h =
        out_end c n l (λ start d aside ignored loops. walk_none (took i) j n (state_of start d cur out₁ aside ignored loops) contiguous_met h)

-- the same, the numbers told by how many blocks there are
module _ (i n : ℕ) (t : PickNumbers) (out : List ℕ) where
  pub paid_start : OutRest (walk (took i) contiguous_met (from 0 n)) (walk (took i) contiguous_met (range 0 n)) 0 t (taken_numbers 0 t) out out
  paid_start =
      subst (λ (r : PickNumbers). OutRest (walk (took i) contiguous_met (from 0 n)) (walk (took i) contiguous_met (range 0 n)) 0 t r out out)
      (sym (none_taken t)) (payload_start i n t out)

  module _ {j : ℕ} {out₁ : List ℕ}
      (c : OutRest (walk (took i) contiguous_met (from 0 n)) (walk (took i) contiguous_met (range j n)) j t (taken_numbers j t) out out₁) where
    pub paid_stop : {out₂ : List ℕ} → j < n → OutDid (took i j) 1 (taken_numbers j t) (taken_numbers (j + 1) t) out₁ out₂
        → (contiguous_is_zero (contiguous_of (taken_numbers (j + 1) t)) && eqb (taken_numbers (j + 1) t).left 0) ≡ true
        → (r : PickNumbers) → r ≡ taken_numbers (j + 1) t → OutDid (walk (took i) contiguous_met (from 0 n)) n t r out out₂
    paid_stop {out₂ = out₂} l y e r k =
        subst (λ (v : PickNumbers). OutDid (walk (took i) contiguous_met (from 0 n)) n t v out out₂) (sym k) (payload_stop i n t out c l y e)

    pub paid_end : j ≤ n → n ≤ j → (r : PickNumbers) → r ≡ taken_numbers n t → OutDid (walk (took i) contiguous_met (from 0 n)) n t r out out₁
    paid_end l h r e =
        let k : n ≡ j = omega arith in
        subst (λ (v : PickNumbers). OutDid (walk (took i) contiguous_met (from 0 n)) n t v out out₁) (sym (e ∙ ap (λ (m : ℕ). taken_numbers m t) k))
        (payload_end i n t out c l h)
