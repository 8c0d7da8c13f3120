-- `busy_at` meets its contract. Assumes nothing.
use Rattle.types.specs.Peer.{named_peer}
use Rattle.pick_busy.proofs.BusyLaws.{busy_next, busy_all}
use Rattle.pick_busy.specs.Busy.{is_busy}
use Rattle.pick_append.proofs.RowLaws.{Gathered, gather_start}
use Rattle.memory_layout.specs.Decode.{block_held}
use lib.ListN.{length}
use native.Mathlib.Omega.{arith}
use mathlib.Core.Path.{◌≡◌}
use Prim.Native.Nat.{◌-◌}
use borrow.Author.Rules.{rules}
use Rattle.pick_busy.proofs.busy.busy_at.Goals as goal

pub loop-j-init : goal.loop-j-init
loop-j-init c = (gather_start _ _ _, c.requires.blocks_len)

pub get_block-b-requires : goal.get_block-b-requires
get_block-b-requires c = record {
  spans = c.requires.spans;
  p_lt_places = (c.requires.place_lt_places.0, omega (arith, c.requires.place_lt_places.1));
}

pub push-n-requires : goal.push-n-requires
push-n-requires c = (omega (arith, c.loop-j.invariant.0.few, c.requires.place_lt_places.1), omega (arith, c.requires.place_lt_places.1))

pub loop-j-preserved : goal.loop-j-preserved
loop-j-preserved c = busy_next c.args.words.now c.args.cells.now c.args.s c.args.place c.args.many _ _ _ _ c.loop-j.invariant.0 c.loop-j.invariant.1
    c.loop-j-test.true c.requires.place_lt_places.1 c.requires.spans.in_words.sizes.wide _ c.get_block-b.ensures _
    c.is_busy-busy.ensures _ c.push-n.ensures.row_after _ c.push-n.ensures.value

pub returns : goal.returns
returns c = busy_all c.args.words.now c.args.cells.now c.args.s c.args.place c.args.many _ _ _ _ c.loop-j.invariant.0 c.loop-j.invariant.1 c.loop-j-test.false
