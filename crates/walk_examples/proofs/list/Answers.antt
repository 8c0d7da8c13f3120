-- `list` meets its contract: the live records fit the rows. Assumes nothing.
use native.Mathlib.Omega.{arith}
use Rattle.memory_records.proofs.laws.LiveLaws.{live_most}
use Rattle.walk_examples.proofs.list.Goals as goal

pub unpack-lent-requires : goal.unpack-lent-requires
unpack-lent-requires c = grind (arith, live_most)
