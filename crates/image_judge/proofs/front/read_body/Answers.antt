-- `read_body` meets its contract: partials, then the rest. Assumes nothing.
use native.Mathlib.Omega.{arith}
use Rattle.image_pieces.proofs.HeadLaws.{head_pieces}
use Rattle.image_judge.proofs.FrontLaws.{states_stand, partials_fail, partials_within, body_read}
use Rattle.image_pieces.proofs.PassedOn.{passed_on}
use Rattle.image_judge.proofs.front.read_body.Goals as goal

pub read_partials-requires : goal.read_partials-requires
read_partials-requires c = record {
  headed = (c.requires.headed.0, states_stand _ _ _ _ c.requires.headed.1);
  n_value = c.requires.n_value.0;
}

pub read_tail-requires : goal.read_tail-requires
read_tail-requires c = record {
  pieces_stand = c.requires.headed.1;
  n_bound = (omega (arith, head_pieces _ c.requires.headed.0.ok, c.requires.n_value.0), c.requires.n_value.1);
  at_in_bounds = partials_within c.args.head c.args.n c.args.bytes.now _ c.read_partials.ensures _ c.in_ok-end.was;
}

pub returns : goal.returns
returns c = body_read c.args.head c.args.n c.args.bytes.now _ c.read_partials.ensures _ c.in_ok-end.was _ c.read_tail.ensures

pub returns-in_err-end : goal.returns-in_err-end
returns-in_err-end c = rw (passed_on c.from_residual.result c.in_err-end.field-0.0 c.from_residual.ensures.1)
    (partials_fail c.args.head c.args.n c.args.bytes.now _ c.read_partials.ensures _ c.in_err-end.was)
