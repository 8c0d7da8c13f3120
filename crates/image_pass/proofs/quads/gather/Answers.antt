-- `gather` meets its contract. The loop's invariant: the numbers of so many blocks are gathered.
use mathlib.Core.Path.{◌∙◌}
use native.Mathlib.Omega.{arith}
use lib.ListN.{length-set}
use Rattle.image_pass.proofs.QuadLaws.{gathered_start, gathered_next, gathered_wrong, gathered_end}
use Rattle.image_pass.proofs.quads.gather.Goals as goal

pub loop-j-init : goal.loop-j-init
loop-j-init c = (omega arith, gathered_start _ _ _)

pub returns-then-has-gt1 : goal.returns-then-has-gt1
returns-then-has-gt1 c = gathered_wrong _ _ _ _ _ (length-set c.loop-j.quads c.loop-j.j c.usize_to_u32.result ∙ c.loop-j.invariant.1.long)

pub loop-j-preserved : goal.loop-j-preserved
loop-j-preserved c = (
  omega arith,
  gathered_next _ c.loop-j.j _ _ _ _ c.loop-j.invariant.1 (omega (arith, c.requires.1)) _ _ _ _ _ _ _ c.read1.ensures c.read1-in-loop-j.ensures
      c.read2.ensures c.read1-has.ensures c.read8-peer.ensures (c.usize_to_u32.ensures ∙ c.u64_to_usize.ensures)
      (omega (arith, c.if-has-gt1.false)) c.only_if-lone.ensures,
)

pub returns : goal.returns
returns c = gathered_end _ c.loop-j.j _ _ _ _ _ c.loop-j.invariant.1 (omega arith)
