-- The steps of a search by halving, and how far each narrows it. Assumes nothing.
use mathlib.Core.Path.{◌≡◌, sym, ap, subst}
use mathlib.Core.Bool.{Bool, true, cond}
use mathlib.Core.List.{List}
use Prim.Native.Nat.{ℕ, ◌+◌, ◌-◌, ◌*◌, ◌≤◌, ◌<◌}
use native.Mathlib.Decide.{dec_lt}
use native.Mathlib.Omega.{arith}
use lib.ListN.{get_or}
use borrow.Author.Tests.{lt-ltb, le-ltb}
use Rattle.memory_records.specs.Records.{rising_from}
use Rattle.memory_records.specs.Rows.{records_in}
use Rattle.memory_halving.specs.Halving.{stepped, stepped_twice, Halves, Narrowed}
use Rattle.memory_halving.proofs.HalvesLaws.{halves_start, halves_up, halves_down}

-- ---- one step
module _ (rows : List ℕ) (i step low : ℕ) where
  -- the row before the next place is of a lower piece
  pub step_up : get_or rows (low + step - 1) 0 < i → stepped rows i step low ≡ low + step
  step_up h = ap (λ (t : Bool). cond {A = ℕ} t (low + step) low) (lt-ltb _ i h)

  -- it is not
  pub step_not : i ≤ get_or rows (low + step - 1) 0 → stepped rows i step low ≡ low
  step_not h = ap (λ (t : Bool). cond {A = ℕ} t (low + step) low) (le-ltb _ i h)

-- ---- what it narrows
module _ (live : ℕ) (rows : List ℕ) (i : ℕ) (r : rising_from 0 (records_in live rows) ≡ true) where
  -- rows before the place are lower, and from `step` places on none is
  halves_step : (step low high : ℕ) → 0 < step → low + step ≤ live → high ≤ low + step + step → Halves live rows i low high
      → Halves live rows i (stepped rows i step low) (stepped rows i step low + step)
  halves_step step low high a b h g = elim (dec_lt (get_or rows (low + step - 1) 0) i) [
    | yes l ↦ subst (λ (n : ℕ). Halves live rows i n (n + step)) (sym (step_up rows i step low l))
        (halves_up live rows i low high (low + step) g r (omega arith) b l _ h)
    | no l ↦ subst (λ (n : ℕ). Halves live rows i n (n + step)) (sym (step_not rows i step low (omega (arith, l))))
        (halves_down live rows i low high (low + step) g r (omega arith) b (omega (arith, l)) _ (omega arith))
  ]

  -- it goes no further than the step
  step_most : (step low : ℕ) → stepped rows i step low ≤ low + step
  step_most step low = elim (dec_lt (get_or rows (low + step - 1) 0) i) [
    | yes l ↦ omega (arith, step_up rows i step low l)
    | no l ↦ omega (arith, step_not rows i step low (omega (arith, l)))
  ]

  -- half as many rows
  pub narrow_step : (wide step low : ℕ) → wide ≡ step + step → 0 < step → Narrowed live rows i wide low
      → Narrowed live rows i step (stepped rows i step low)
  narrow_step wide step low e a g = record {
    halves = halves_step step low (low + wide) a (omega (arith, e, g.live_all)) (omega (arith, e)) g.halves;
    live_all = omega (arith, e, g.live_all, step_most step low);
  }

  -- a fourth of them by two steps
  pub narrow_two : (wide step low n : ℕ) → wide ≡ 4 * step → 0 < step → Narrowed live rows i wide low → n ≡ stepped_twice rows i step low
      → Narrowed live rows i step n
  narrow_two wide step low n e a g f =
      rw f (narrow_step (2 * step) step _ (omega arith) a (narrow_step wide (2 * step) low (omega (arith, e)) (omega (arith, a)) g))

  -- of 64 rows 16, 4 and 1
  pub narrow_16 : (a b : ℕ) → Narrowed live rows i 64 a → b ≡ stepped_twice rows i 16 a → Narrowed live rows i 16 b
  narrow_16 a b g e = narrow_two 64 16 a b (omega arith) (omega arith) g e

  pub narrow_4 : (a b c : ℕ) → Narrowed live rows i 64 a → b ≡ stepped_twice rows i 16 a → c ≡ stepped_twice rows i 4 b
      → Narrowed live rows i 4 c
  narrow_4 a b c g e f = narrow_two 16 4 b c (omega arith) (omega arith) (narrow_16 a b g e) f

  pub narrow_1 : (a b c d : ℕ) → Narrowed live rows i 64 a → b ≡ stepped_twice rows i 16 a → c ≡ stepped_twice rows i 4 b
      → d ≡ stepped_twice rows i 1 c → Narrowed live rows i 1 d
  narrow_1 a b c d g e f h = narrow_two 4 1 c d (omega arith) (omega arith) (narrow_4 a b c g e f) h

  -- of one row
  pub narrow_last : (low : ℕ) → Narrowed live rows i 1 low → Halves live rows i (stepped rows i 1 low) (stepped rows i 1 low)
  narrow_last low g = elim (dec_lt (get_or rows (low + 1 - 1) 0) i) [
    | yes l ↦ subst (λ (n : ℕ). Halves live rows i n n) (sym (step_up rows i 1 low l))
        (halves_up live rows i low (low + 1) (low + 1) g.halves r (omega arith) g.live_all l _ (omega arith))
    | no l ↦ subst (λ (n : ℕ). Halves live rows i n n) (sym (step_not rows i 1 low (omega (arith, l))))
        (halves_down live rows i low (low + 1) (low + 1) g.halves r (omega arith) g.live_all (omega (arith, l)) _ (omega arith))
  ]

  -- the first step, from the start of at most twice as many rows
  first_halves : (width : ℕ) → 0 < width → width ≤ live → live ≤ 2 * width
      → Halves live rows i (stepped rows i width 0) (stepped rows i width 0 + width)
  first_halves width a b c = halves_step width 0 live a (omega (arith, b)) (omega (arith, c)) (halves_start live rows i live (omega arith))

  -- it ends among the lower rows
  pub first_low : (width : ℕ) → 0 < width → width ≤ live → live ≤ 2 * width → stepped rows i width 0 + width ≤ live
      → Narrowed live rows i width (stepped rows i width 0)
  first_low width a b c h = record {
    halves = first_halves width a b c;
    live_all = h;
  }

  -- or the upper ones hold all that is left
  pub first_high : (width : ℕ) → 0 < width → width ≤ live → live ≤ 2 * width → live ≤ stepped rows i width 0 + width
      → Narrowed live rows i width (live - width)
  first_high width a b c h = record {
    halves = record {
      within = omega (arith, b);
      below = λ k l. (first_halves width a b c).below k (omega (arith, b, h, l));
      above = λ k l m. absurd (omega (arith, b, l, m));
    };
    live_all = omega (arith, b);
  }

-- ---- two steps at once
module _ (rows : List ℕ) (i step low : ℕ) where
  -- the middle row tells which of two steps counts
  pub two_far : get_or rows (low + 2 * step - 1) 0 < i → stepped rows i step (low + 2 * step) ≡ stepped_twice rows i step low
  two_far h = ap (stepped rows i step) (sym (step_up rows i (2 * step) low h))

  pub two_near : i ≤ get_or rows (low + 2 * step - 1) 0 → stepped rows i step low ≡ stepped_twice rows i step low
  two_near h = ap (stepped rows i step) (sym (step_not rows i (2 * step) low h))
