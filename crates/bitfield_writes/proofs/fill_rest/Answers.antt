-- `fill_rest` meets its contract: the mask has the bits of the rest of the byte. Assumes nothing.
use Prim.Native.Nat.{◌+◌, ◌*◌, ◌/◌, ◌%◌, ◌^◌}
use Rattle.bitfield_writes.proofs.RunLaws.{run_none, mask_run, rest_mask}
use native.Mathlib.Omega.{arith}
use Rattle.bitfield_writes.proofs.fill_rest.Goals as goal

pub returns-then-buf-at : goal.returns-then-buf-at
returns-then-buf-at c = run_none c.args.from (8 * (c.args.from / 8 + 1)) (λ i. c.args.v) c.args.buf.now (λ i. omega (arith, c.slice_known-1.given i)) (omega arith)

pub returns : goal.returns
returns c = rw c.masked.ensures
    (mask_run c.args.from (8 * (c.args.from / 8 + 1)) (c.args.from / 8) (255 / 2 ^ (c.args.from % 8)) c.args.v c.args.buf.now (λ k. omega (arith, c.slice_known-1.given k))
    (omega arith) (omega arith) (omega arith) (rest_mask c.args.from))
