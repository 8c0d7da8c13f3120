-- `peers_at` meets its contract. Assumes nothing.
use Prim.Native.Nat.{◌-◌, ◌≤◌}
use Rattle.ask_records.proofs.BlockRecords.{peer_row}
use Rattle.ask_records.proofs.RecordLaws.{lists_start, lists_next, lists_end}
use Rattle.ask_records.specs.Records.{peer_read, Lists}
use Rattle.memory_layout.specs.Decode.{block_held}
use mathlib.Core.List.{[], ◌∷◌}
use mathlib.Core.Path.{refl}
use native.Mathlib.Omega.{arith}
use borrow.Author.Rules.{rules}
use Rattle.ask_records.proofs.peers.peers_at.Goals as goal

pub loop-j-init : goal.loop-j-init
loop-j-init c = (omega arith, lists_start _ _ _ _)

pub get_block-x-requires : goal.get_block-x-requires
get_block-x-requires c = record {
  spans = c.requires.spans;
  p_lt_places = (c.requires.p_lt_places.0, omega (arith, c.requires.p_lt_places.1));
}

pub overflow_mul-j : goal.overflow_mul-j
overflow_mul-j c = omega (arith, c.requires.many_in_bounds)

pub put_words-requires : goal.put_words-requires
put_words-requires c = omega (arith, c.requires.many_in_bounds, c.loop-j.invariant.1.written.long)

pub loop-j-preserved : goal.loop-j-preserved
loop-j-preserved c = (
  omega arith,
  lists_next 2 peer_read _ _ _ _ _ _ c.loop-j.invariant.1 c.put_words.ensures refl (peer_row _ _ c.get_block-x.ensures.held _ _
      c.bit_of.ensures c.peer_or_zero.ensures),
)

pub shape_of-out : goal.shape_of-out
shape_of-out c = c.loop-j.invariant.1.written.long

pub returns : goal.returns
returns c = lists_end _ _ _ _ _ _ _ c.loop-j.invariant.1 (omega (arith, c.loop-j.invariant.0))
