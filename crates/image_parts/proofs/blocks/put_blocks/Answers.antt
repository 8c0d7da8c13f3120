-- `put_blocks` meets its contract: after j turns j blocks are there. Assumes nothing.
use mathlib.Core.Path.{◌≡◌}
use Rattle.model.specs.Lists.{nth}
use Rattle.model.specs.image.Image.{body_length}
use Rattle.image_parts.proofs.RunLaws.{run_start, run_step, run_end, run_fits}
use Rattle.image_parts.proofs.RecordMeanings.{block_long}
use native.Mathlib.Omega.{arith}
use Rattle.image_parts.proofs.blocks.put_blocks.Goals as goal

pub overflow_add-step : goal.overflow_add-step
unfolding body_length nth
overflow_add-step c = let e : c.body_length-step.result ≡ 12 = c.body_length-step.ensures in omega arith

pub loop-j-init : goal.loop-j-init
loop-j-init c = (omega arith, run_start _ _ _ _ (omega (arith, c.requires.p_lt_places.2)))

pub put_block_at-requires : goal.put_block_at-requires
put_block_at-requires c = record {
  spans = (c.requires.spans.0, c.requires.spans.1 _ c.loop-j-test.true);
  p_lt_places = (
    c.requires.p_lt_places.0,
    omega (arith, c.requires.p_lt_places.1),
    run_fits _ _ 13 _ _ _ _ _ _ (λ k. block_long _) c.loop-j.invariant.1 c.loop-j-test.true c.requires.p_lt_places.2,
  );
}

pub overflow_add-next : goal.overflow_add-next
unfolding body_length nth
overflow_add-next c = let e : c.body_length-step.result ≡ 12 = c.body_length-step.ensures in
    let r = run_fits _ _ 13 _ _ _ _ _ _ (λ k. block_long _) c.loop-j.invariant.1 c.loop-j-test.true c.requires.p_lt_places.2 in
    omega arith

pub loop-j-preserved : goal.loop-j-preserved
unfolding body_length nth
loop-j-preserved c = let e : c.body_length-step.result ≡ 12 = c.body_length-step.ensures in
    (omega arith, run_step _ _ 13 _ _ _ _ _ _ _ (block_long _) c.loop-j.invariant.1 c.put_block_at.ensures (omega arith))

pub shape_of-bytes : goal.shape_of-bytes
shape_of-bytes c = c.loop-j.invariant.1.put.long

pub returns : goal.returns
returns c = run_end _ _ _ _ _ _ _ _ c.loop-j.invariant.1 (omega (arith, c.loop-j.invariant.0))
