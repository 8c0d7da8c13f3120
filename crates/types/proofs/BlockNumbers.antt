-- States of a block and their numbers give each other back. Assumes nothing.
use Rattle.std.specs.Prelude.{None, Some}
use mathlib.Core.Path.{◌≡◌, refl}
use Prim.Native.Nat.{ℕ}
use native.Mathlib.Omega.{arith}
use Rattle.types.specs.Numbers.{case_with}
use Rattle.types.specs.Block.{block_state_number, block_states, block_state_with_number}
use Rattle.types.specs.declared.block.BlockState.{BlockState}
use Rattle.types.specs.declared.block.BlockState.TheVariants.{None, Requested, Writing, Finished}
use Rattle.types.proofs.Numbers.{RoundTrip, round_trip}

same : (p q : BlockState) → Some p ≡ Some q → p ≡ q
same p q e = cc

apart : (q : BlockState) → None ≡ Some q → ⊥
apart q e = let z : ◌≡◌ {A = ℕ} 0 1 = cc in omega arith

back : (q : BlockState) → block_state_with_number (block_state_number q) ≡ Some q
unfolding block_state_with_number case_with
back None = refl
back Requested = refl
back Writing = refl
back Finished = refl

pub block_state_numbers : RoundTrip block_state_number Some None block_state_with_number
unfolding block_state_with_number
block_state_numbers = round_trip block_state_number Some None same apart block_states back
