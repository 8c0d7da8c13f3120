-- The two kinds of record that hold one number have bodies of four bytes. Assumes nothing.
use mathlib.Core.Path.{◌≡◌, ap}
use Prim.Native.Nat.{ℕ, ◌≤◌}
use native.Mathlib.Omega.{arith}
use native.Mathlib.Decide.{ℕ_discrete}
use Rattle.model.specs.Lists.{nth}
use Rattle.model.specs.image.Image.{body_length}

pub four : (kind : ℕ) → 5 ≤ kind → kind ≤ 6 → body_length kind ≡ 4
unfolding body_length nth
four kind l h = elim (ℕ_discrete kind 5) [
  | yes q ↦ ap body_length q
  | no q ↦ ap body_length (go q)
]
  where
    go : (kind ≡ 5 → ⊥) → kind ≡ 6
    go q = omega arith
