-- `keys_of` meets its contract. Assumes nothing.
use mathlib.Core.Path.{ap, ◌∙◌}
use Rattle.pick_scan.specs.Scans.{key_of}
use Rattle.pick_scan.proofs.KeyLaws.{Giving, giving_start, giving_next, giving_end}
use Rattle.memory_rows.specs.Lookup.{picker_in}
use native.Mathlib.Omega.{arith}
use Prim.Native.Nat.{◌-◌}
use borrow.Author.Rules.{rules}
use Rattle.pick_scan.proofs.order.keys_of.Given as goal

abbrev pub invariant-loop-j : goal.invariant-loop-j
invariant-loop-j l = Giving (key_of (picker_in l.live l.rows l.words l.cells)) l.places l.keys l.j
