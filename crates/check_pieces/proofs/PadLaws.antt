-- The test of the pad bytes: all joined, or one by one. Assumes nothing.
use mathlib.Core.Path.{◌≡◌, sym, ◌∙◌}
use mathlib.Core.Bool.{true, false}
use mathlib.Core.List.{List}
use Prim.Native.Nat.{ℕ, ◌+◌, ◌-◌, ◌≤◌, ◌<◌}
use native.Mathlib.Decide.{ℕ_discrete}
use native.Mathlib.Omega.{arith}
use lib.Bits.{bit_or}
use lib.Dec.{leb}
use lib.ListN.{length, get_or}
use borrow.Author.Tests.{le-leb, lt-leb}
use Rattle.model.specs.Lists.{every, from}
use Rattle.check_pieces.specs.Rows.{NoneAbove, pads_below, pads_ok}
use Rattle.check_pieces.proofs.Joins.{or_least}
use Rattle.check_pieces.proofs.Passes.{every-true, every_next, every_end, every_start}

-- ---- one by one
-- those that are left decide
pub record Testing (size : ℕ) (pads : List ℕ) (i : ℕ) : Type 0 where
  pub within : i ≤ length pads
  pub left : every (λ j. leb (get_or pads j 0) size) (from i (length pads - i)) ≡ pads_below size pads

pub testing_start : (size : ℕ) (pads : List ℕ) → Testing size pads 0
unfolding pads_below
testing_start size pads = record { within = omega arith; left = every_start (λ j. leb (get_or pads j 0) size) (length pads) }

module _ (size : ℕ) (pads : List ℕ) (i : ℕ) (p : Testing size pads i) where
  pub pad_above : i < length pads → size < get_or pads i 0 → false ≡ pads_below size pads
  pad_above h f =
      sym (sym p.left ∙ every_next (λ j. leb (get_or pads j 0) size) i (length pads) h ∙ rw (lt-leb (get_or pads i 0) size f))

  pub pad_next : i < length pads → get_or pads i 0 ≤ size → Testing size pads (i + 1)
  pad_next h f = record {
    within = omega arith;
    left = sym (every_next (λ j. leb (get_or pads j 0) size) i (length pads) h ∙ rw (le-leb (get_or pads i 0) size f)) ∙ p.left;
  }

  pub pads_end : length pads ≤ i → true ≡ pads_below size pads
  pads_end h = sym (every_end (λ j. leb (get_or pads j 0) size) i (length pads) h) ∙ p.left

-- ---- joined
-- none of the first i is above what is joined so far
pub record Joining (pads : List ℕ) (all i : ℕ) : Type 0 where
  pub within : i ≤ length pads
  pub most : (j : ℕ) → j < i → get_or pads j 0 ≤ all

pub joining_start : (pads : List ℕ) → Joining pads 0 0
joining_start pads = record { within = omega arith; most = λ j h. absurd (omega arith) }

module _ (pads : List ℕ) (all i : ℕ) (p : Joining pads all i) where
  pub join_next : i < length pads → Joining pads (bit_or all (get_or pads i 0)) (i + 1)
  join_next h = record {
    within = omega arith;
    most = λ j l. elim (ℕ_discrete j i) [
      | yes q ↦ rw q (or_least all (get_or pads i 0)).1
      | no q ↦ omega (arith, (or_least all (get_or pads i 0)).0, p.most j (omega arith))
    ];
  }

  pub join_end : length pads ≤ i → NoneAbove all pads
  join_end h j l = p.most j (omega arith)

-- ---- all of them
module _ (size last : ℕ) (pads : List ℕ) where
  pub joined_below : (all : ℕ) → NoneAbove all pads → all ≤ last → last ≤ size → 1 ≤ length pads → true ≡ pads_ok size last pads
  unfolding pads_ok pads_below
  joined_below all h l m n =
      let a = every-true (λ j. leb (get_or pads j 0) size) 0 (length pads) (λ j q u. le-leb (get_or pads j 0) size (omega (arith, h j (omega arith)))) in
      sym (rw a (le-leb (get_or pads (length pads - 1) 0) last (omega (arith, h (length pads - 1) (omega arith)))))

  pub some_above : pads_below size pads ≡ false → false ≡ pads_ok size last pads
  unfolding pads_ok
  some_above e = sym (rw e)

  pub last_one : pads_below size pads ≡ true → leb (get_or pads (length pads - 1) 0) last ≡ pads_ok size last pads
  unfolding pads_ok
  last_one e = sym (rw e)
