-- `with_value` meets its contract: a fill from bit 0 on, where there is room. Assumes nothing.
use mathlib.Core.Path.{◌∙◌}
use Rattle.bitfield_writes.specs.Writing.{grown}
use Rattle.bitfield_writes.proofs.RunLaws.{fill_all}
use Rattle.bitfield_writes.proofs.Answers.{did_done, did_short}
use native.Mathlib.Omega.{arith}
use Rattle.bitfield_writes.proofs.with_value.Goals as goal

pub returns-then-buf-num_bytes : goal.returns-then-buf-num_bytes
returns-then-buf-num_bytes c = did_short _ _ _ (omega arith)

pub returns : goal.returns
unfolding grown
returns c = did_done c.args.bits c.args.buf.now _ _ (omega arith) (c.fill_to.ensures ∙ fill_all c.args.bits (λ i. c.args.val) c.args.buf.now)
