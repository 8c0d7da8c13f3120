-- `fill_to` meets its contract: a run to the end of the last byte, and then the spare bits cleared. Assumes nothing.
use mathlib.Core.Path.{◌∙◌, ap}
use mathlib.Core.Bool.{false}
use Prim.Native.Nat.{◌*◌}
use Rattle.bitfield_writes.specs.Writing.{put_run, grown}
use Rattle.bitfield_writes.proofs.RunLaws.{tail_fill}
use Rattle.bitfield_writes.proofs.fill_to.Goals as goal

pub returns : goal.returns
unfolding grown
returns c = c.put_run-2.ensures
    ∙ ap (put_run c.args.bits (8 * c.num_bytes-n.result) (λ i. false)) c.put_run.ensures
    ∙ rw c.num_bytes-n.ensures (tail_fill c.args.bits c.args.from (λ i. c.args.v) c.args.buf.now)
