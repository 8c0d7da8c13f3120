-- `places_low` meets its contract: the places of the first k rows are added up. Assumes nothing.
use Prim.Native.Nat.{ℕ, ◌+◌, ◌*◌}
use mathlib.Core.Path.{ap, ◌∙◌}
use native.Mathlib.Nat.{mul-le-mul}
use native.Mathlib.Omega.{arith}
use lib.Dec.{eqb}
use lib.ListN.{get_or}
use Rattle.memory_records.specs.Rows.{row_at}
use Rattle.memory_places.proofs.LowLaws.{sum_start, sum_more, sum_end}
use Rattle.memory_places.proofs.places.places_low.Goals as goal

pub loop-k-init : goal.loop-k-init
loop-k-init c = (omega arith, sum_start _, omega arith)

pub overflow_add-sum-in-loop-k : goal.overflow_add-sum-in-loop-k
unfolding row_at
overflow_add-sum-in-loop-k c = omega (arith, c.loop-k.invariant.2, c.loop-k-test.true, c.requires.live_bound.0, c.requires.places_below c.loop-k.k c.loop-k-test.true)

pub loop-k-preserved : goal.loop-k-preserved
unfolding row_at
loop-k-preserved c = (
  omega arith,
  ap (λ (n : ℕ). n + get_or c.args.rows.now (512 + c.loop-k.k) 0) c.loop-k.invariant.1 ∙ sum_more _ _,
  omega (arith, c.loop-k.invariant.2, c.requires.places_below c.loop-k.k c.loop-k-test.true),
)

pub overflow_mul-result-2 : goal.overflow_mul-result-2
overflow_mul-result-2 c = omega (arith, mul-le-mul c.requires.live_bound.0 c.requires.live_bound.0)

pub returns : goal.returns
returns c = ap (λ (m : ℕ). eqb (2 * m + c.args.live) (c.args.live * c.args.live)) (c.u32_to_usize.ensures ∙ c.loop-k.invariant.1 ∙ sum_end _ _ _ (omega arith))
