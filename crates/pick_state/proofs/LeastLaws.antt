-- The library's lesser of two numbers is the definition's. Assumes nothing.
use mathlib.Core.Path.{◌≡◌}
use Prim.Native.Nat.{ℕ, min}
use native.Mathlib.Omega.{arith}
use lib.Dec.{leb}
use borrow.Author.Tests.{leb-true, leb-false}
use Rattle.model.specs.Lists.{least}
use Rattle.model.proofs.base.Phases.{cond_arms}

pub min_least : (a b : ℕ) → min a b ≡ least a b
unfolding least
min_least a b =
    cond_arms (λ (x : ℕ). min a b ≡ x) (leb a b) a b (λ e. omega (arith, leb-true a b e)) (λ e. omega (arith, leb-false a b e))
