-- `halve` meets its contract. The invariant: the first word above `top` stands within `size` places from `low` on. Assumes nothing.
use borrow.Author.Rules.{rules}
use Rattle.list_groups.proofs.Searching.{Halves, halves_start, halves_next, halves_end}
use Rattle.list_groups.proofs.halve.Given as goal

abbrev pub invariant-loop-size : goal.invariant-loop-size
invariant-loop-size l = Halves l.top l.from l.end l.list l.low l.size

abbrev pub decreases-loop-size : goal.decreases-loop-size
decreases-loop-size l = l.size
