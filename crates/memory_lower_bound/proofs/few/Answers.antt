-- `few` meets its contract: rows before `low` are of lower pieces, rows from `width` places on are not. Assumes nothing.
use mathlib.Core.Logic.{⊎_elim}
use borrow.Author.Rules.{rules}
use Prim.Native.Nat.{◌+◌, ◌≤◌}
use native.Mathlib.Omega.{arith}
use Rattle.memory_halving.specs.Halving.{Halves}
use Rattle.memory_halving.proofs.HalvesLaws.{halves_start, halves_past, halves_up, halves_down, halves_end}
use Rattle.memory_lower_bound.proofs.few.Goals as goal
use Rattle.memory_lower_bound.proofs.few.Goals.{then-next-live+then-u32_to_usize-i, then-next-live+else-u32_to_usize-i, else-next-live}

pub loop-width-init : goal.loop-width-init
loop-width-init c = (omega arith, halves_start _ _ _ _ (omega (arith, c.requires.live_bound.0)))

pub overflow_add-next : goal.overflow_add-next
overflow_add-next c = omega (arith, c.loop-width.invariant.0, c.loop-width.invariant.1.within, c.requires.live_bound.0)

pub loop-width-preserved : goal.loop-width-preserved
loop-width-preserved c = let l = c.loop-width in (
  omega (arith, l.invariant.0),
  elim c.if-next-live.branch [
    | then-next-live+then-u32_to_usize-i w ↦
        rw w.low-is (halves_up c.args.live c.args.rows.now c.args.i l.low (l.low + l.width) _ l.invariant.1 c.requires.rows_value (omega arith)
        w.if-next-live.true (omega (arith, w.u32_to_usize.ensures, w.if-u32_to_usize-i.true)) _ (omega arith))
    | then-next-live+else-u32_to_usize-i w ↦
        rw w.low-is (halves_down c.args.live c.args.rows.now c.args.i l.low (l.low + l.width) _ l.invariant.1 c.requires.rows_value (omega arith)
        w.if-next-live.true (omega (arith, w.u32_to_usize.ensures, w.if-u32_to_usize-i.false)) _ (omega arith))
    | else-next-live w ↦ rw w.low-is (halves_past c.args.live c.args.rows.now c.args.i l.low (l.low + l.width) _ l.invariant.1 w.if-next-live.false _ (omega arith))
  ],
)

pub returns : goal.returns
returns c = let l = c.loop-width in
    halves_end _ _ _ l.low (l.low + l.width) l.invariant.1 (omega (arith, c.loop-width-test.false))
