-- `lent_peer` meets its contract. Assumes nothing.
use native.Mathlib.Omega.{arith}
use Rattle.pick_judge.proofs.arguments.lent_peer.Goals as goal

pub returns : goal.returns
returns c = omega arith
