-- `whole` meets its contract, by computation. Assumes nothing.
use Rattle.bitfield_writes.specs.Writing.{digits}
use Rattle.bitfield_writes.proofs.whole.Goals as goal

pub returns-then-v : goal.returns-then-v
unfolding digits
returns-then-v c = rw c.if-v.true

pub returns-else-v : goal.returns-else-v
unfolding digits
returns-else-v c = rw c.if-v.false
