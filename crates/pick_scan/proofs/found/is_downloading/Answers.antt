-- `is_downloading` meets its contract. Assumes nothing.
use Rattle.memory_queues.proofs.StandLaws.{state_range}
use Rattle.ask_picker.proofs.AskedLaws.{asked_queues}
use Rattle.pick_partial.proofs.PartialLaws.{row_few}
use Rattle.pick_scan.proofs.FoundLaws.{downloading_is}
use Rattle.pick_scan.proofs.found.is_downloading.Goals as goal

pub queue_of-requires : goal.queue_of-requires
queue_of-requires c = let a = asked_queues _ _ _ _ _ c.requires.asked in
    record {
      cells_span = c.requires.asked.stands.bounds.spans.in_cells;
      k_bound = (row_few _ _ _ _ _ c.requires.asked _ c.requires.k_lt_live, c.requires.asked.wide);
      k_bound_2 = (a.there _ c.requires.k_lt_live, state_range _ _ _ _ a _ c.requires.k_lt_live);
    }

pub returns : goal.returns
returns c = downloading_is c.args.s c.args.live c.args.rows.now c.args.words.now c.args.cells.now c.requires.asked c.args.k c.requires.k_lt_live _ c.queue_of.ensures
