-- `is_full` meets its contract. Assumes nothing.
use Rattle.pick_busy.proofs.FullLaws.{full_says}
use borrow.Author.Rules.{rules}
use Rattle.pick_busy.proofs.full.is_full.Goals as goal

pub returns : goal.returns
returns c = full_says c.args.s c.args.rows.now c.args.cells.now c.args.q c.args.bytes.now c.args.k _ c.queue_of-queue.ensures _
    c.u32_to_usize.ensures _ c.has_bit-has.ensures
