-- `walk_extents` meets its contract: what is left of the extents is all of them. Assumes nothing.
use mathlib.Core.Path.{◌∙◌}
use Prim.Native.Nat.{◌-◌, ◌≤◌}
use native.Mathlib.Omega.{arith}
use borrow.Author.Rules.{rules}
use Rattle.memory_records.specs.Rows.{records_in}
use Rattle.memory_layout.specs.Decode.{head_word}
use Rattle.memory_rows.specs.Lookup.{picker_in}
use Rattle.pick_state.specs.Requests.{request_of}
use Rattle.pick_extents.specs.Extents.{first_walk}
use Rattle.pick_extents.proofs.ExtentLaws.{ExtentsGoing, extents_start, extents_next, extents_stop, extents_end, extents_lengths, extents_long, as_extents, found_all}
use Rattle.pick_extents.proofs.walk_extents.Given as goal

abbrev pub invariant-loop-k : goal.invariant-loop-k
invariant-loop-k l = (l.k ≤ l.n)
    × ExtentsGoing (request_of l.q l.bytes) l.n l.k (picker_in l.live l.rows l.words l.cells) l.initial.cur l.cur l.initial.out l.initial.aside l.initial.ignored l.out l.aside l.ignored
