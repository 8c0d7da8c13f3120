-- `few` meets its contract: rows before `low` are of lower pieces, rows from `width` places on are not. Assumes nothing.
use mathlib.Core.Logic.{⊎_elim}
use borrow.Author.Rules.{rules}
use Prim.Native.Nat.{◌+◌, ◌≤◌}
use native.Mathlib.Omega.{arith}
use Rattle.memory_halving.specs.Halving.{Halves}
use Rattle.memory_halving.proofs.HalvesLaws.{halves_start, halves_past, halves_up, halves_down, halves_end}
use Rattle.memory_lower_bound.proofs.few.Given as goal

abbrev pub invariant-loop-width : goal.invariant-loop-width
invariant-loop-width l = (l.width ≤ 64) × Halves l.live l.rows l.i l.low (l.low + l.width)

abbrev pub decreases-loop-width : goal.decreases-loop-width
decreases-loop-width l = l.width
