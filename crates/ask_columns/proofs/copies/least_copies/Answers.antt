-- `least_copies` meets its contract: after each stretch it holds for the pieces so far. Assumes nothing.
use mathlib.Core.Path.{◌≡◌, subst}
use Prim.Native.Nat.{ℕ, ◌+◌, ◌*◌}
use native.Mathlib.Omega.{arith}
use Rattle.ask_columns.specs.Copies.{LeastIn}
use Rattle.ask_columns.proofs.LeastLaws.{least_start}
use Rattle.ask_columns.proofs.copies.least_copies.Goals as goal

pub loop-k-init : goal.loop-k-init
loop-k-init c = least_start _ _

pub loop-k-preserved : goal.loop-k-preserved
loop-k-preserved c = let e : c.loop-k.k * 128 + 128 ≡ (c.loop-k.k + 1) * 128 = omega arith in
    subst (λ (i : ℕ). LeastIn c.args.cells.now c.args.s.pieces i c.lower-least.result) e c.lower-least.ensures

pub returns : goal.returns
returns c = subst (λ (i : ℕ). LeastIn c.args.cells.now c.args.s.pieces i c.lower.result) (omega arith) c.lower.ensures
