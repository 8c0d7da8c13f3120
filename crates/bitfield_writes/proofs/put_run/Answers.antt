-- `put_run` meets its contract: the rest of the first byte and the bytes behind it are one run. Assumes nothing.
use mathlib.Core.Path.{◌∙◌, ap}
use Prim.Native.Nat.{◌+◌, ◌*◌, ◌/◌}
use Rattle.bitfield_writes.specs.Writing.{put_run}
use Rattle.bitfield_writes.proofs.RunLaws.{run_none, run_run}
use native.Mathlib.Omega.{arith}
use Rattle.bitfield_writes.proofs.put_run.Goals as goal

pub returns-then-end-at : goal.returns-then-end-at
returns-then-end-at c = run_none c.args.from (8 * c.args.end) (λ i. c.args.v) c.args.buf.now (λ k. omega (arith, c.slice_known-1.given k)) (omega arith)

pub returns : goal.returns
returns c = let next = 8 * (c.args.from / 8 + 1) in
    let end = 8 * c.args.end in
    c.fill_bytes.ensures
    ∙ ap (put_run next end (λ i. c.args.v)) c.fill_rest.ensures
    ∙ run_run c.args.from next end (λ i. c.args.v) c.args.buf.now (omega arith) (omega (arith, c.if-end-at.false))
