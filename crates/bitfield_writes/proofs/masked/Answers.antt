-- `masked` meets its contract: bit by bit, set and then turned over. Assumes nothing.
use Rattle.bitfield_writes.proofs.ByteLaws.{or_mask, xor_mask}
use native.Mathlib.Omega.{arith}
use Rattle.bitfield_writes.proofs.masked.Goals as goal

pub returns-then-v : goal.returns-then-v
returns-then-v c = rw c.if-v.true (or_mask c.args.b c.args.m (omega arith) (omega arith))

pub returns-else-v : goal.returns-else-v
returns-else-v c = rw c.if-v.false (xor_mask c.args.b c.args.m (omega arith) (omega arith))
