-- `fill_bytes` meets its contract. The invariant: the bytes from the first up to j are written. Assumes nothing.
use mathlib.Core.Path.{refl, ◌∙◌}
use Prim.Native.Nat.{◌*◌}
use lib.ListN.{length-set}
use Rattle.bitfield_writes.proofs.ByteLaws.{byte_bit, digits_lt}
use Rattle.bitfield_writes.proofs.RunLaws.{run_none, run_step, run_upto}
use native.Mathlib.Omega.{arith}
use Rattle.bitfield_writes.proofs.fill_bytes.Goals as goal

pub loop-j-init : goal.loop-j-init
loop-j-init c = let from = 8 * c.args.from in
    (run_none from from (λ i. c.args.v) c.args.buf.now (λ k. omega (arith, c.slice_known-1.given k)) (omega arith), refl, omega arith, omega arith)

pub loop-j-preserved : goal.loop-j-preserved
loop-j-preserved c = (
  run_step (8 * c.args.from) c.loop-j.j c.whole-w.result (λ i. c.args.v) c.args.buf.now c.loop-j.buf c.loop-j.invariant.0
      (omega arith) (rw c.whole-w.ensures (digits_lt (λ i. c.args.v) 8)) (omega arith) (λ r k. rw c.whole-w.ensures (byte_bit (λ i. c.args.v) r k)),
  length-set c.loop-j.buf c.loop-j.j c.whole-w.result ∙ c.loop-j.invariant.1,
  omega arith,
  omega arith,
)

pub returns : goal.returns
returns c = c.loop-j.invariant.0
    ∙ run_upto (8 * c.args.from) (8 * c.args.to) (8 * c.loop-j.j) (λ i. c.args.v) c.args.buf.now (λ i p m u. omega arith) (λ i p m u. omega arith)
