-- The search by halving, step by step, and where it ends. Assumes nothing.
use mathlib.Core.Path.{◌≡◌, sym, ap, ◌∙◌}
use mathlib.Core.Logic.{◌≢◌}
use mathlib.Core.Bool.{true}
use mathlib.Core.List.{List}
use Prim.Native.Nat.{ℕ, ◌+◌, ◌-◌, ◌≤◌, ◌<◌}
use native.Mathlib.Decide.{ℕ_discrete, dec_lt}
use native.Mathlib.Omega.{arith}
use lib.ListN.{get_or}
use Rattle.memory_records.specs.Records.{rising_from}
use Rattle.memory_records.specs.Rows.{records_in}
use Rattle.memory_halving.specs.Halving.{Halves}
use Rattle.memory_halving.proofs.RowLaws.{rows_rise}

-- ---- halving
-- no row before the first, and none from `high` on
pub halves_start : (live : ℕ) (rows : List ℕ) (i high : ℕ) → live ≤ high → Halves live rows i 0 high
halves_start live rows i high h = record {
  within = omega arith;
  below = λ k l. absurd (omega arith);
  above = λ k a b. absurd (omega (arith, h));
}

-- nothing between
pub halves_end : (live : ℕ) (rows : List ℕ) (i low high : ℕ) → Halves live rows i low high → high ≡ low → Halves live rows i low low
halves_end live rows i low high g e = rw e at g

module _ (live : ℕ) (rows : List ℕ) (i low high next : ℕ) (g : Halves live rows i low high) where
  -- the step goes beyond the live rows
  pub halves_past : live < next → (end : ℕ) → next ≤ end + 1 → Halves live rows i low end
  halves_past h end l = record {
    within = g.within;
    below = g.below;
    above = λ k a b. absurd (omega arith);
  }

  module _ (r : rising_from 0 (records_in live rows) ≡ true) (a : 0 < next) (b : next ≤ live) where
    -- the last piece of the step is lower
    pub halves_up : get_or rows (next - 1) 0 < i → (end : ℕ) → high ≤ end → Halves live rows i next end
    halves_up e end l = record {
      within = b;
      below = λ k h. elim (ℕ_discrete k (next - 1)) [
        | yes f ↦ rw f e
        | no f ↦ omega (arith, e, rows_rise live rows r k (next - 1) (omega (arith, f)) (omega arith))
      ];
      above = λ k h j. g.above k (omega arith) j;
    }

    -- it is not
    pub halves_down : i ≤ get_or rows (next - 1) 0 → (end : ℕ) → next ≤ end + 1 → Halves live rows i low end
    halves_down e end l = record {
      within = g.within;
      below = g.below;
      above = λ k h j. elim (ℕ_discrete k (next - 1)) [
        | yes f ↦ rw f e
        | no f ↦ omega (arith, e, rows_rise live rows r (next - 1) k (omega (arith, f)) j)
      ];
    }

-- ---- where the search ends
module _ (live : ℕ) (rows : List ℕ) (i k : ℕ) (g : Halves live rows i k k) where
  -- at a row of another piece: no row is of the piece
  pub other_row : rising_from 0 (records_in live rows) ≡ true → k < live → get_or rows k 0 ≢ i → (j : ℕ) → j < live → get_or rows j 0 ≢ i
  other_row r h n j l e = elim (dec_lt j k) [
    | yes a ↦ omega (arith, g.below j a)
    | no a ↦ elim (ℕ_discrete j k) [
      | yes f ↦ n (ap (λ (p : ℕ). get_or rows p 0) (sym f) ∙ e)
      | no f ↦ omega (arith, g.above k (omega arith) h, rows_rise live rows r k j (omega (arith, a, f)) l)
    ]
  ]

  -- behind the last row
  pub past_rows : live ≤ k → (j : ℕ) → j < live → get_or rows j 0 ≢ i
  past_rows h j l e = omega (arith, g.below j (omega arith))
