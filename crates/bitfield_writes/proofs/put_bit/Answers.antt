-- `put_bit` meets its contract: the mask has the one bit. Assumes nothing.
use Prim.Native.Nat.{◌+◌, ◌/◌, ◌%◌, ◌^◌}
use borrow.Author.Tests.{lt-ltb, le-ltb}
use Rattle.bitfield_writes.specs.Writing.{put_bit}
use Rattle.bitfield_writes.proofs.RunLaws.{run_none, mask_run, bit_mask}
use native.Mathlib.Omega.{arith}
use Rattle.bitfield_writes.proofs.put_bit.Goals as goal

pub returns-then-bits-index : goal.returns-then-bits-index
unfolding put_bit
returns-then-bits-index c = rw (le-ltb _ _ c.if-bits-index.true)

pub returns-then-buf-at : goal.returns-then-buf-at
unfolding put_bit
returns-then-buf-at c = rw (lt-ltb _ _ c.if-bits-index.false)
    (run_none c.args.index (c.args.index + 1) (λ i. c.args.v) c.args.buf.now (λ k. omega (arith, c.slice_known-1.given k)) (omega arith))

pub returns : goal.returns
unfolding put_bit
returns c = rw (lt-ltb _ _ c.if-bits-index.false, c.masked.ensures)
    (mask_run c.args.index (c.args.index + 1) (c.args.index / 8) (128 / 2 ^ (c.args.index % 8)) c.args.v c.args.buf.now (λ k. omega (arith, c.slice_known-1.given k))
    (omega arith) (omega arith) (omega arith) (bit_mask c.args.index))
