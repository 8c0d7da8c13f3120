-- `key_of` meets its contract. Assumes nothing.
use native.Mathlib.Omega.{arith}
use Rattle.pick_partial.proofs.PartialLaws.{row_few}
use Rattle.ask_picker.proofs.AskedLaws.{asked_queues}
use Rattle.pick_scan.proofs.KeyLaws.{peers_told, key_is}
use borrow.Author.Rules.{rules}
use Rattle.pick_scan.proofs.order.key_of.Goals as goal

pub offset_bounds-rows-k : goal.offset_bounds-rows-k
offset_bounds-rows-k c = omega (arith, row_few _ _ _ _ _ c.requires.asked _ c.requires.k_lt_live)

pub bounds-rows-k : goal.bounds-rows-k
bounds-rows-k c = omega (arith, c.requires.asked.wide, row_few _ _ _ _ _ c.requires.asked _ c.requires.k_lt_live)

pub peer_count-peers-requires : goal.peer_count-peers-requires
peer_count-peers-requires c = record {
  cells_span = c.requires.asked.stands.bounds.spans.in_cells;
  i_lt_pieces = omega (arith, c.u32_to_usize.ensures, (asked_queues _ _ _ _ _ c.requires.asked).there _ c.requires.k_lt_live);
}

pub overflow_add-u16_to_usize-2 : goal.overflow_add-u16_to_usize-2
overflow_add-u16_to_usize-2 c = omega (arith, row_few _ _ _ _ _ c.requires.asked _ c.requires.k_lt_live)

pub usize_to_u32-requires : goal.usize_to_u32-requires
usize_to_u32-requires c = omega (
  arith,
  row_few _ _ _ _ _ c.requires.asked _ c.requires.k_lt_live,
  c.u16_to_usize.ensures,
  peers_told _ _ _ _ _ c.requires.asked _ c.requires.k_lt_live _ _ c.u32_to_usize.ensures c.peer_count-peers.ensures,
)

pub returns : goal.returns
returns c = key_is _ _ _ _ _ c.requires.asked _ c.requires.k_lt_live _ _ c.u32_to_usize.ensures
    c.peer_count-peers.ensures _ c.u16_to_usize.ensures _ c.progress_of-progress.ensures.0 _
    c.usize_to_u32.ensures
