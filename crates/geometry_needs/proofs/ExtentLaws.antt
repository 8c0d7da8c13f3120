-- Extents of n pieces of b blocks: how many, and where each starts and ends.
use mathlib.Core.Path.{◌≡◌, sym}
use Prim.Native.Nat.{ℕ, ◌+◌, ◌-◌, ◌*◌, ◌≤◌, ◌<◌}
use native.Mathlib.Nat.{div-zero}
use native.Mathlib.Decide.{ℕ_discrete}
use native.Mathlib.Omega.{arith}
use borrow.Author.Tests.{eq-eqb, ne_eqb}
use Rattle.model.specs.Bep3.{parts_of}
use Rattle.model.specs.State.{extent_size, num_extents}
use Rattle.geometry.specs.Numbers.{extent_of, extent_begin, extent_end}
use Rattle.geometry.proofs.PartLaws.{part_starts, least_left, least_right}

-- ---- how many
-- a piece without blocks has no extent
pub size_none : (b : ℕ) → b ≡ 0 → 0 ≡ extent_size b
unfolding extent_size
size_none b h = rw (h, div-zero)

-- nor has one of 256
pub extents_none : (n b : ℕ) → b ≡ 256 → 0 ≡ num_extents n b
unfolding num_extents
extents_none n b h = rw (eq-eqb b 256 h)

-- else the pieces are cut into parts
pub extents_parts : (n b : ℕ) → (b ≡ 256 → ⊥) → parts_of n (extent_size b) ≡ num_extents n b
unfolding num_extents parts_of
extents_parts n b h = rw (ne_eqb b 256 h)

-- an extent without pieces is number 0
pub extent_of_none : (b i : ℕ) → extent_size b ≡ 0 → 0 ≡ extent_of b i
unfolding extent_of
extent_of_none b i h = rw (h, div-zero)

-- ---- extent e, of so many pieces
pub begin_same : (b e : ℕ) {long : ℕ} → long ≡ extent_size b → e * long ≡ extent_begin b e
unfolding extent_begin
begin_same b e is = rw is

module _ (n b e : ℕ) {long : ℕ} (is : long ≡ extent_size b) where
  -- it starts before the end
  pub extent_starts : e < num_extents n b → e * long < n
  extent_starts h = elim (ℕ_discrete b 256) [
    | yes eq ↦ absurd (omega (arith, extents_none n b eq))
    | no ne ↦ rw is (part_starts n (extent_size b) e (rw (sym (extents_parts n b ne)) at h))
  ]

  -- it ends with the pieces where too few are left, and else so many further
  pub end_short : n - e * long < long → n ≡ extent_end n b e
  unfolding extent_end
  end_short h = rw (← begin_same b e is, ← is) (least_right (e * long + long) n (omega arith))

  pub end_long : e * long < n → long ≤ n - e * long → e * long + long ≡ extent_end n b e
  unfolding extent_end
  end_long s h = rw (← begin_same b e is, ← is) (least_left (e * long + long) n (omega arith))
