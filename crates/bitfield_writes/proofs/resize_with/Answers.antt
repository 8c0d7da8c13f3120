-- `resize_with` meets its contract: a fill from the old number of bits on, where there is room. Assumes nothing.
use Rattle.bitfield_writes.specs.Writing.{filled, grown}
use Rattle.bitfield_writes.proofs.Answers.{did_done, did_short}
use native.Mathlib.Omega.{arith}
use Rattle.bitfield_writes.proofs.resize_with.Goals as goal

pub returns-then-buf-num_bytes : goal.returns-then-buf-num_bytes
returns-then-buf-num_bytes c = did_short _ _ _ (omega arith)

pub returns : goal.returns
returns c = did_done c.args.bits c.args.buf.now (filled c.args.bits (grown c.args.buf.now c.args.old c.args.val) c.args.buf.now) _ (omega arith) c.fill_to.ensures
