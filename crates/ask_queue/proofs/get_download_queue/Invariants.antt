-- `get_download_queue` meets its contract: after q turns the partials of the first q queues are there. Assumes nothing.
use Prim.Native.Nat.{◌-◌, ◌<◌}
use Rattle.ask_picker.proofs.AskedLaws.{asked_rows, asked_queues}
use Rattle.ask_queue.proofs.InfoRecords.{Infos, queues_start, queues_next, queues_end, room, places_low, size_low}
use Rattle.memory_layout.proofs.OffsetLaws.{small}
use Rattle.memory_queues.proofs.EnterLaws.{shaped_fresh}
use Rattle.memory_rows.specs.Lookup.{picker_in}
use Rattle.model.specs.Lists.{nth}
use native.Mathlib.Omega.{arith}
use borrow.Author.Rules.{rules}
use Rattle.ask_queue.proofs.get_download_queue.Given as goal

abbrev pub invariant-loop-q : goal.invariant-loop-q
invariant-loop-q l = Infos (picker_in l.live l.rows l.words l.cells) l.sizes l.q l.n l.initial.out l.out
