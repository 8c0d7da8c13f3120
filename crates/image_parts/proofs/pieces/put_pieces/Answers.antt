-- `put_pieces` meets its contract: after i turns i pieces are there. Assumes nothing.
use mathlib.Core.Path.{◌≡◌}
use Rattle.model.specs.Lists.{nth}
use Rattle.model.specs.image.Image.{body_length}
use Rattle.memory_layout.specs.Decode.{pieces_held}
use Rattle.image_parts.proofs.RunLaws.{run_start, run_step, run_end, run_fits}
use Rattle.image_parts.proofs.RecordMeanings.{piece_long}
use native.Mathlib.Omega.{arith}
use Rattle.image_parts.proofs.pieces.put_pieces.Goals as goal

pub overflow_add-step : goal.overflow_add-step
unfolding body_length nth
overflow_add-step c = let e : c.body_length-step.result ≡ 9 = c.body_length-step.ensures in omega arith

pub loop-i-init : goal.loop-i-init
loop-i-init c = (omega arith, run_start _ _ _ _ (omega (arith, c.requires.pieces_in_bounds)))

pub put_piece_at-requires : goal.put_piece_at-requires
put_piece_at-requires c = record {
  spans = c.requires.spans;
  i_lt_pieces = (c.loop-i-test.true, run_fits _ _ 10 _ _ _ _ _ _ (λ k. piece_long _) c.loop-i.invariant.1 c.loop-i-test.true c.requires.pieces_in_bounds);
}

pub overflow_add-next : goal.overflow_add-next
unfolding body_length nth
overflow_add-next c = let e : c.body_length-step.result ≡ 9 = c.body_length-step.ensures in
    let r = run_fits _ _ 10 _ _ _ _ _ _ (λ k. piece_long _) c.loop-i.invariant.1 c.loop-i-test.true c.requires.pieces_in_bounds in
    omega arith

pub loop-i-preserved : goal.loop-i-preserved
unfolding body_length nth
loop-i-preserved c = let e : c.body_length-step.result ≡ 9 = c.body_length-step.ensures in
    (omega arith, run_step _ _ 10 _ _ _ _ _ _ _ (piece_long _) c.loop-i.invariant.1 c.put_piece_at.ensures (omega arith))

pub shape_of-bytes : goal.shape_of-bytes
shape_of-bytes c = c.loop-i.invariant.1.put.long

pub returns : goal.returns
unfolding pieces_held
returns c = run_end _ _ _ _ _ _ _ _ c.loop-i.invariant.1 (omega (arith, c.loop-i.invariant.0))
