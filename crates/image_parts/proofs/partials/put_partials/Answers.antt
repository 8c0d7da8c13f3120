-- `put_partials` meets its contract: after k turns k partials are there. Assumes nothing.
use Rattle.memory_layout.specs.Decode.{partials_held}
use Rattle.memory_layout.proofs.StandingLaws.{stands_shape}
use Rattle.ask_picker.proofs.AskedLaws.{asked_queues}
use Rattle.image_parts.proofs.RunLaws.{run_start, run_end}
use Rattle.image_parts.proofs.RowLaws.{row_ready, row_fits, row_next}
use native.Mathlib.Omega.{arith}
use Rattle.image_parts.proofs.partials.put_partials.Goals as goal

pub loop-k-init : goal.loop-k-init
loop-k-init c = (omega arith, run_start _ _ _ _ (omega (arith, c.requires.blocks_in_bounds)))

pub row-requires : goal.row-requires
row-requires c = (omega (arith, c.loop-k-test.true, (asked_queues _ _ _ _ _ c.requires.asked).few), c.requires.asked.wide)

pub put_partial_at-next-requires : goal.put_partial_at-next-requires
put_partial_at-next-requires c = let r = row_ready _ _ _ _ _ c.requires.asked _ c.loop-k-test.true _ c.row.ensures in record {
  spans = (c.requires.asked.stands.bounds.spans, stands_shape _ _ _ _ c.requires.asked.stands.bounds);
  plain_record = r.plain;
  index_lt_pieces = (r.there, r.placed, r.blocks);
  index_in_bounds = row_fits _ _ _ _ _ c.requires.asked _ c.loop-k-test.true _ _ _ _ _ c.row.ensures c.loop-k.invariant.1 c.requires.blocks_in_bounds;
}

pub loop-k-preserved : goal.loop-k-preserved
loop-k-preserved c = (omega arith, row_next _ _ _ _ _ c.requires.asked _ c.loop-k-test.true _ _ _ _ _ _ _ c.row.ensures c.loop-k.invariant.1 c.put_partial_at-next.ensures)

pub shape_of-bytes : goal.shape_of-bytes
shape_of-bytes c = c.loop-k.invariant.1.put.long

pub returns : goal.returns
unfolding partials_held
returns c = run_end _ _ _ _ _ _ _ _ c.loop-k.invariant.1 (omega (arith, c.loop-k.invariant.0, c.requires.asked.many))
