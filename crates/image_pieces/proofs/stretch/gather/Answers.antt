-- `gather` meets its contract. The loop's invariant: the numbers of so many pieces are gathered, and nothing is wrong with them.
use native.Mathlib.Omega.{arith}
use Rattle.image_pieces.proofs.StretchLaws.{gathered_start, gathered_next, gathered_wrong, gathered_end}
use Rattle.image_pieces.proofs.stretch.gather.Goals as goal

pub loop-j-init : goal.loop-j-init
loop-j-init c = (omega arith, gathered_start _ _ _ _ _ _ _ c.requires.columns)

pub returns-then-kind-size : goal.returns-then-kind-size
returns-then-kind-size c = gathered_wrong _ _ _ _ _ _ _ c.loop-j.invariant.1.columns

pub loop-j-preserved : goal.loop-j-preserved
loop-j-preserved c = (
  omega arith,
  gathered_next _ c.loop-j.j _ _ _ _ _ _ c.loop-j.invariant.1 (omega arith) _ _ _ _ _ _ _ _ _ _ c.if-kind-size.false c.read1-kind.ensures
      c.read4-pad.ensures c.read2.ensures c.u64_to_u16.ensures c.read1.ensures c.u64_to_u16-in-loop-j.ensures
      c.read1-in-loop-j.ensures c.u64_to_u16-in-loop-j-2.ensures c.read1-in-loop-j-2.ensures c.u64_to_u16-in-loop-j-3.ensures,
)

pub returns : goal.returns
returns c = gathered_end _ c.loop-j.j _ _ _ _ _ _ c.loop-j.invariant.1 (omega arith)
