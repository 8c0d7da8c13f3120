-- `pick_end_game` meets its contract. Assumes nothing.
use Rattle.pick_rest.proofs.PlayLaws.{Playing, play_start, play_next, play_end, play_room, play_less, play_wide}
use Rattle.ask_picker.proofs.AskedLaws.{asked_rows, asked_queues}
use Rattle.memory_rows.specs.Lookup.{picker_in}
use mathlib.Core.Bool.{not}
use Rattle.model.specs.Lists.{bit}
use lib.ListN.{length-replicate}
use Prim.Native.Nat.{ℕ, ◌-◌, ◌+◌}
use Rattle.pick_rest.proofs.game.pick_end_game.Given as goal

abbrev pub invariant-loop-found : goal.invariant-loop-found
invariant-loop-found l = Playing l.draws l.q l.bytes (picker_in l.live l.rows l.words l.cells) l.live l.initial.cur l.cur l.many l.found l.places l.initial.out l.out l.initial.loops l.loops

abbrev pub decreases-loop-found : goal.decreases-loop-found
decreases-loop-found l = l.many + bit (not l.found)
