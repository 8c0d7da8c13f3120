-- The counters of a pick: n steps on one raise it by n at most, and nothing else raises it. Assumes nothing.
use mathlib.Core.Path.{◌≡◌, refl}
use Prim.Native.Nat.{ℕ, zero, suc, ◌+◌, ◌≤◌}
use native.Mathlib.Decide.{dec_le}
use native.Mathlib.Omega.{arith}
use lib.ListN.{length, get_or, set, replicate, length-set, get_or-eq_default}
use lib.Seq.{get_or-set_same, get_or-set_other}
use Rattle.model.specs.Lists.{nth, set_nth}
use Rattle.model.specs.State.{Picker}
use Rattle.model.specs.Options.{rand_loops}
use Rattle.model.specs.pick.Blocks.{PickRequest, PickState, start_state, with_out, with_backup, ignore, flagged, steps}
use Rattle.model.proofs.pick.FrameLaws.{Blind, any_partial}
use Rattle.model.proofs.pick.PhaseLaws.{Kept, blind_kept}

-- the counter at a place
unfoldable pub counter : ℕ → PickState → ℕ
counter c w = nth 0 w.loops c

-- n steps raise a counter by n at most
pub counter_step : (n c : ℕ) (w : PickState) → counter c (steps n c w) ≤ counter c w + n
unfolding counter steps set_nth nth
counter_step n c w = elim (dec_le (length w.loops) c) [
  | yes l ↦ omega (arith, get_or-eq_default (set w.loops c (get_or w.loops c 0 + n)) 0 {n = c} (omega (arith, length-set w.loops c (get_or w.loops c 0 + n))))
  | no l ↦ omega (arith, get_or-set_same w.loops c (get_or w.loops c 0 + n) 0 (omega arith))
]

-- they do not lower it
pub counter_up : (n c : ℕ) (w : PickState) → counter c w ≤ counter c (steps n c w)
unfolding counter steps set_nth nth
counter_up n c w = elim (dec_le (length w.loops) c) [
  | yes l ↦ omega (arith, get_or-eq_default w.loops 0 {n = c} l)
  | no l ↦ omega (arith, get_or-set_same w.loops c (get_or w.loops c 0 + n) 0 (omega arith))
]

-- and no other
pub counter_other : (k n c : ℕ) (w : PickState) → (k ≡ c → ⊥) → counter k (steps n c w) ≡ counter k w
unfolding counter steps set_nth nth
counter_other k n c w h = get_or-set_other w.loops c k (get_or w.loops c 0 + n) 0 h

-- blocks, marks and flags raise none
module _ (k m : ℕ) where
  -- blocks and marks
  pub counter_blind : Blind (λ w. counter k w ≤ m)
  unfolding counter with_out with_backup ignore
  counter_blind = record { out = λ n r bs w h. h; backup = λ bs w h. h; marks = λ i w h. h }

  -- flags
  pub counter_flag : (f : ℕ) (w : PickState) → counter k w ≤ m → counter k (flagged f w) ≤ m
  unfolding counter flagged
  counter_flag f w h = h

  -- steps on another counter
  pub counter_keeps : (n c : ℕ) (w : PickState) → (k ≡ c → ⊥) → counter k w ≤ m → counter k (steps n c w) ≤ m
  counter_keeps n c w d h = omega (arith, counter_other k n c w d)

  -- a pick keeps a bound on a counter, where the phases' own counting does
  pub counter_kept : (a : PickRequest) → (k ≡ rand_loops → ⊥) → Kept a any_partial (λ w. counter k w ≤ m)
  counter_kept a d = blind_kept a (λ w. counter k w ≤ m) counter_blind counter_flag (λ w h. counter_keeps 1 rand_loops w d h)

-- ---- where a pick begins
zeros : (n k : ℕ) → ◌≡◌ {A = ℕ} (get_or (replicate n 0) k 0) 0
zeros zero k = refl
zeros (suc n) zero = refl
zeros (suc n) (suc k) = zeros n k

-- nothing is counted
pub begin_zero : (s : Picker) (a : PickRequest) (k : ℕ) → counter k (start_state s a) ≤ 0
unfolding counter start_state nth
begin_zero s a k = omega (arith, zeros 7 k)
