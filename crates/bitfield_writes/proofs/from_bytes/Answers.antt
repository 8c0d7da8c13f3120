-- `from_bytes` meets its contract: the bytes copied and then the spare bits cleared, where there are bits and room. Assumes nothing.
use mathlib.Core.Path.{◌∙◌, ap}
use mathlib.Core.Bool.{false}
use Prim.Native.Nat.{◌*◌}
use Rattle.model.specs.Bep3.{bit_at}
use Rattle.bitfield_writes.specs.Writing.{put_run}
use Rattle.bitfield_writes.proofs.RunLaws.{tail_fill, fill_all}
use Rattle.bitfield_writes.proofs.Answers.{took_done, took_short, took_none}
use native.Mathlib.Omega.{arith}
use Rattle.bitfield_writes.proofs.from_bytes.Goals as goal

pub returns-then-src-n : goal.returns-then-src-n
returns-then-src-n c = took_none _ _ _ _ (omega arith)

pub returns-then-buf-n : goal.returns-then-buf-n
returns-then-buf-n c = took_short _ _ _ _ (omega arith) (omega arith)

pub returns : goal.returns
returns c = took_done c.args.bits c.args.buf.now _ c.args.src.now _ (omega (arith, c.num_bytes-n.ensures, c.if-src-n.false)) (omega (arith, c.num_bytes-n.ensures, c.if-buf-n.false))
    (c.put_run.ensures
    ∙ ap (put_run c.args.bits (8 * c.num_bytes-n.result) (λ i. false)) c.copy_bytes.ensures
    ∙ rw c.num_bytes-n.ensures (tail_fill c.args.bits 0 (bit_at c.args.src.now) c.args.buf.now)
    ∙ fill_all c.args.bits (bit_at c.args.src.now) c.args.buf.now)
