-- `bit_at` meets its contract: past the end the bit is unset, and else the code computes what the definition says. Assumes nothing.
use mathlib.Core.Path.{refl, sym}
use Rattle.model.specs.Bep3.{bit_of, bit_at}
use Rattle.model.proofs.base.Bep3Laws.{bit_at_past}
use native.Mathlib.Omega.{arith}
use Rattle.bitfield.proofs.bit_at.Goals as goal

pub returns-then-bytes-at : goal.returns-then-bytes-at
returns-then-bytes-at c = sym (bit_at_past c.args.bytes.now c.args.i (omega arith))

pub returns : goal.returns
unfolding bit_at bit_of
returns c = refl
