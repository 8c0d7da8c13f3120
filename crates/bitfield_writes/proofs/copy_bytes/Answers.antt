-- `copy_bytes` meets its contract. The invariant: the bytes below j are copied. Assumes nothing.
use mathlib.Core.Path.{refl, sym, ◌∙◌}
use Prim.Native.Nat.{◌*◌}
use lib.ListN.{get_or, length-set}
use Rattle.model.specs.Bep3.{bit_at}
use Rattle.bitfield_writes.proofs.ByteLaws.{at_byte}
use Rattle.bitfield_writes.proofs.RunLaws.{run_none, run_step, run_upto}
use native.Mathlib.Omega.{arith}
use Rattle.bitfield_writes.proofs.copy_bytes.Goals as goal

pub loop-j-init : goal.loop-j-init
loop-j-init c = (run_none 0 0 (bit_at c.args.src.now) c.args.buf.now (λ k. omega (arith, c.slice_known-1.given k)) (omega arith), refl, omega arith)

pub loop-j-preserved : goal.loop-j-preserved
loop-j-preserved c = (
  run_step 0 c.loop-j.j (get_or c.args.src.now c.loop-j.j 0) (bit_at c.args.src.now) c.args.buf.now c.loop-j.buf c.loop-j.invariant.0
      (omega arith) (omega (arith, c.shared_slice_known-in-loop-j-1.given c.loop-j.j)) (omega arith) (λ r k. sym (at_byte c.args.src.now c.loop-j.j r k)),
  length-set c.loop-j.buf c.loop-j.j (get_or c.args.src.now c.loop-j.j 0) ∙ c.loop-j.invariant.1,
  omega arith,
)

pub returns : goal.returns
returns c = c.loop-j.invariant.0
    ∙ run_upto 0 (8 * c.args.n) (8 * c.loop-j.j) (bit_at c.args.src.now) c.args.buf.now (λ i p m u. omega arith) (λ i p m u. omega arith)
