-- `peers_start` meets its contract: no product or sum wraps. Assumes nothing.
use native.Mathlib.Omega.{arith}
use Rattle.memory_layout.specs.Offsets.{cell, peer_at}
use Rattle.memory_layout.proofs.OffsetLaws.{small}
use Rattle.image_columns.proofs.offsets.peers_start.Goals as goal

pub overflow_mul-result : goal.overflow_mul-result
overflow_mul-result c = let m = small c.args.s 0 c.args.p c.requires.0 (omega arith) (omega (arith, c.requires.1)) in
    omega arith

pub overflow_add-result : goal.overflow_add-result
overflow_add-result c = let m = small c.args.s 0 c.args.p c.requires.0 (omega arith) (omega (arith, c.requires.1)) in
    omega arith

pub overflow_mul-result-2 : goal.overflow_mul-result-2
overflow_mul-result-2 c = let m = small c.args.s 0 c.args.p c.requires.0 (omega arith) (omega (arith, c.requires.1)) in
    omega arith

pub overflow_add-result-2 : goal.overflow_add-result-2
overflow_add-result-2 c = let m = small c.args.s 0 c.args.p c.requires.0 (omega arith) (omega (arith, c.requires.1)) in
    omega arith

pub returns : goal.returns
unfolding peer_at cell
returns c = omega arith
