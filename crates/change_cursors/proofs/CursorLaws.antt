-- The scans one piece at a time, and the cursors' changes by how the tests come out. Assumes nothing.
use mathlib.Core.Path.{◌≡◌, refl}
use mathlib.Core.Logic.{◌≢◌}
use mathlib.Core.Bool.{Bool, true, false, ◌&&◌}
use mathlib.Core.List.{List, [], ◌∷◌}
use Prim.Native.Nat.{ℕ, zero, suc, ◌+◌, ◌≤◌, ◌<◌}
use native.Mathlib.Nat.{not-suc-le-zero, le_of_suc-le-suc}
use native.Mathlib.Omega.{arith}
use lib.ListN.{length, get_or, drop}
use lib.Dec.{eqb}
use borrow.Author.Tests.{eq-eqb, ne_eqb}
use Rattle.model.specs.Lists.{nth, len, when}
use Rattle.model.specs.State.{Piece, Picker, no_piece, with_cursors, piece_at, pieces_in}
use Rattle.model.specs.change.Changes.{flushed_or_filtered, flushed_or_filtered_run, cursor_from, reverse_from, empty_range, advance_cursors}
use Rattle.model.specs.change.Changes.{cursors_on_filter}

-- ---- upward
run_here : (ps : List Piece) (i : ℕ) → i < length ps → flushed_or_filtered (get_or ps i no_piece) ≡ false
    → flushed_or_filtered_run (drop i ps) ≡ 0
unfolding flushed_or_filtered_run
run_here [] i h e = absurd (not-suc-le-zero h)
run_here (p ∷ ps) zero h e = rw e
run_here (p ∷ ps) (suc i) h e = run_here ps i (le_of_suc-le-suc h) e

run_on : (ps : List Piece) (i : ℕ) → i < length ps → flushed_or_filtered (get_or ps i no_piece) ≡ true
    → flushed_or_filtered_run (drop i ps) ≡ suc (flushed_or_filtered_run (drop (suc i) ps))
unfolding flushed_or_filtered_run
run_on [] i h e = absurd (not-suc-le-zero h)
run_on (p ∷ ps) zero h e = rw e
run_on (p ∷ ps) (suc i) h e = run_on ps i (le_of_suc-le-suc h) e

run_end : (ps : List Piece) (i : ℕ) → length ps ≤ i → flushed_or_filtered_run (drop i ps) ≡ 0
unfolding flushed_or_filtered_run
run_end [] zero h = refl
run_end [] (suc i) h = refl
run_end (p ∷ ps) zero h = absurd (not-suc-le-zero h)
run_end (p ∷ ps) (suc i) h = run_end ps i (le_of_suc-le-suc h)

module _ (d : Picker) (i : ℕ) where
  -- it stops at a piece that is wanted
  pub cursor_stops : i < pieces_in d → flushed_or_filtered (piece_at d i) ≡ false → cursor_from d i ≡ i
  unfolding cursor_from pieces_in len piece_at nth
  cursor_stops h e = omega (arith, run_here d.pieces i h e)

  -- passes one that is not
  pub cursor_passes : i < pieces_in d → flushed_or_filtered (piece_at d i) ≡ true → cursor_from d i ≡ cursor_from d (i + 1)
  unfolding cursor_from pieces_in len piece_at nth
  cursor_passes h e =
      let next : i + 1 ≡ suc i = omega arith in
      rw next (omega (arith, run_on d.pieces i h e))

  -- and ends behind the last
  pub cursor_ends : pieces_in d ≤ i → cursor_from d i ≡ i
  unfolding cursor_from pieces_in len
  cursor_ends h = omega (arith, run_end d.pieces i h)

-- ---- downward
-- with piece i in front of it: it stops where that is wanted
pub reverse_stops : (d : Picker) (i : ℕ) → flushed_or_filtered (piece_at d i) ≡ false → reverse_from d (suc i) ≡ suc i
unfolding reverse_from
reverse_stops d i e = rw e

-- and passes it where it is not
pub reverse_passes : (d : Picker) (i : ℕ) → flushed_or_filtered (piece_at d i) ≡ true → reverse_from d (suc i) ≡ reverse_from d i
unfolding reverse_from
reverse_passes d i e = rw e

-- it ends at the first
pub reverse_ends : (d : Picker) → reverse_from d 0 ≡ 0
unfolding reverse_from
reverse_ends d = refl

-- ---- the changes
module _ (d : Picker) where
  -- both cursors set, one after the other
  pub empty_range_is : (n : ℕ) → n ≡ pieces_in d → with_cursors n 0 d ≡ empty_range d
  unfolding empty_range
  empty_range_is n e = rw e

  -- whether the cursors stand at piece i
  module _ (i : ℕ) (front back : Bool) (f : front ≡ eqb d.cursor i) (b : back ≡ eqb d.reverse_cursor (suc i)) where
    -- both at it
    pub advance_both : (front && back) ≡ true → empty_range d ≡ advance_cursors i d
    unfolding advance_cursors
    advance_both e = rw (← f, ← b, e)

    -- the first alone
    pub advance_front : (front && back) ≡ false → front ≡ true → with_cursors (cursor_from d (suc i)) d.reverse_cursor d
        ≡ advance_cursors i d
    unfolding advance_cursors
    advance_front e t = rw (← f, ← b, e, t)

    -- the other alone
    pub advance_back : (front && back) ≡ false → front ≡ false → back ≡ true → with_cursors d.cursor (reverse_from d i) d
        ≡ advance_cursors i d
    unfolding advance_cursors
    advance_back e t o = rw (← f, ← b, e, t, o)

    -- neither
    pub advance_neither : (front && back) ≡ false → front ≡ false → back ≡ false → d ≡ advance_cursors i d
    unfolding advance_cursors
    advance_neither e t o = rw (← f, ← b, e, t, o)

  module _ (i priority : ℕ) where
    -- left out from now on
    pub filter_on : priority ≡ 0 → advance_cursors i d ≡ cursors_on_filter i priority d
    unfolding cursors_on_filter
    filter_on e = rw (eq-eqb priority 0 e)

    -- wanted from now on, where no piece was
    pub filter_off_met : priority ≢ 0 → d.cursor ≡ d.reverse_cursor → empty_range d ≡ cursors_on_filter i priority d
    unfolding cursors_on_filter when
    filter_off_met e m = rw (ne_eqb priority 0 e, eq-eqb d.cursor d.reverse_cursor m)

    -- where some was
    pub filter_off : priority ≢ 0 → d.cursor ≢ d.reverse_cursor → d ≡ cursors_on_filter i priority d
    unfolding cursors_on_filter when
    filter_off e m = rw (ne_eqb priority 0 e, ne_eqb d.cursor d.reverse_cursor m)
