-- `mark_passed` meets its contract: after k turns the first k rows are marked. Assumes nothing.
use borrow.Author.Rules.{rules}
use mathlib.Core.Path.{◌≡◌, subst}
use Prim.Native.Nat.{ℕ, ◌≤◌, ◌-◌}
use native.Mathlib.Omega.{arith}
use Rattle.ask_totals.specs.Marks.{Marked}
use Rattle.ask_totals.proofs.MarkLaws.{marked_start, marked_next}
use Rattle.ask_totals.proofs.marks.mark_passed.Goals as goal

pub loop-k-init : goal.loop-k-init
loop-k-init c = (omega arith, marked_start _)

pub offset_bounds-marks-piece : goal.offset_bounds-marks-piece
offset_bounds-marks-piece c = omega (arith, c.u32_to_usize-piece.ensures, c.requires.pieces_low c.loop-k.k (omega arith))

pub bounds-marks-piece : goal.bounds-marks-piece
bounds-marks-piece c = omega (arith, c.u32_to_usize-piece.ensures, c.requires.pieces_low c.loop-k.k (omega arith))

pub loop-k-preserved : goal.loop-k-preserved
loop-k-preserved c = (
  omega arith,
  marked_next _ c.args.live c.loop-k.k c.loop-k.marks c.requires.rows_value c.requires.pieces_low (omega arith) c.loop-k.invariant.1 _
      c.u32_to_usize-piece.ensures,
)

pub returns : goal.returns
returns c = let e : c.loop-k.k ≡ c.args.live = omega (arith, c.loop-k.invariant.0) in
    subst (λ (k : ℕ). Marked c.args.rows.now k c.loop-k.marks) e c.loop-k.invariant.1
