-- `counted` meets its contract: what is counted of the first i pieces and what is left give the whole. Assumes nothing.
use borrow.Author.Rules.{rules}
use Prim.Native.Nat.{◌-◌}
use native.Mathlib.Omega.{arith}
use Rattle.model.proofs.base.Counts.{bit_le}
use Rattle.memory_rows.specs.Lookup.{picker_in}
use Rattle.ask_picker.proofs.AskedLaws.{asked_queues, asked_rise}
use Rattle.ask_totals.specs.Totals.{included}
use Rattle.ask_totals.proofs.CountLaws.{Counting, counting_start}
use Rattle.ask_totals.proofs.TotalLaws.{asked_low, total_next, pads_room, total_end}
use Rattle.ask_totals.proofs.count.counted.Goals as goal

pub mark_passed-requires : goal.mark_passed-requires
mark_passed-requires c = record {
  live_bound = ((asked_queues c.args.s c.args.live c.args.rows.now c.args.words.now c.args.cells.now c.requires).few, c.requires.wide);
  rows_value = asked_rise c.args.s c.args.live c.args.rows.now c.args.words.now c.args.cells.now c.requires;
  pieces_low = asked_low c.args.s c.args.live c.args.rows.now c.args.words.now c.args.cells.now c.requires;
}

pub loop-i-init : goal.loop-i-init
loop-i-init c = counting_start _ _

pub flushed-requires : goal.flushed-requires
flushed-requires c = record {
  cells_span = c.requires.stands.bounds.spans.in_cells;
  i_lt_pieces = omega arith;
}

pub offset_bounds-marks-i : goal.offset_bounds-marks-i
offset_bounds-marks-i c = omega (arith, c.requires.stands.bounds.spans.in_cells.sizes.many)

pub bounds-marks-i : goal.bounds-marks-i
bounds-marks-i c = omega (arith, c.requires.stands.bounds.spans.in_cells.sizes.many)

pub priority-requires : goal.priority-requires
priority-requires c = record {
  cells_span = c.requires.stands.bounds.spans.in_cells;
  i_lt_pieces = omega arith;
}

pub overflow_add-num : goal.overflow_add-num
overflow_add-num c = omega (arith, c.requires.stands.bounds.spans.in_cells.sizes.many, c.loop-i.invariant.few, c.counting-num.ensures, bit_le c.include-last.result)

pub overflow_add-pads : goal.overflow_add-pads
overflow_add-pads c = omega (
  arith,
  pads_room c.args.s c.args.live c.args.rows.now c.args.words.now c.args.cells.now c.requires c.loop-i.i c.loop-i.pads c.pad_bytes.result
      c.counting-pads.result c.include-last.result c.loop-i.invariant.small c.pad_bytes.ensures (omega arith) c.counting-pads.ensures,
  c.requires.stands.bounds.spans.in_cells.sizes.many,
)

pub loop-i-preserved : goal.loop-i-preserved
loop-i-preserved c = total_next c.args.s c.args.live c.args.rows.now c.args.words.now c.args.cells.now c.requires (included c.args.kinds) c.loop-i.i c.loop-i.num c.loop-i.pads
    c.loop-i.last c.loop-i.invariant _ c.mark_passed.ensures (omega arith) c.flushed.result c.flushed.ensures c.priority.result c.priority.ensures c.include-last.result
    c.include-last.ensures c.pad_bytes.result c.pad_bytes.ensures c.counting-num.result c.counting-pads.result c.counting-num.ensures c.counting-pads.ensures

pub returns : goal.returns
returns c = total_end c.args.s c.args.live c.args.rows.now c.args.words.now c.args.cells.now c.requires (included c.args.kinds) c.loop-i.i _ c.loop-i.invariant (omega arith)
