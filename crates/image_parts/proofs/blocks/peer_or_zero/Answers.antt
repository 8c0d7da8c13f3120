-- `peer_or_zero` meets its contract. Assumes nothing.
use native.Mathlib.Nat.{mul-le-mul_right}
use Rattle.image_parts.proofs.RecordMeanings.{peer_product}
use native.Mathlib.Omega.{arith}
use Rattle.image_parts.proofs.blocks.peer_or_zero.Goals as goal

pub overflow_mul-result : goal.overflow_mul-result
overflow_mul-result c = omega (arith, mul-le-mul_right c.args.peer c.requires)

pub returns : goal.returns
returns c = peer_product _ _ c.requires
