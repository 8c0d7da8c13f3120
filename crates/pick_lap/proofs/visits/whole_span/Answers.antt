-- `whole_span` meets its contract. Assumes nothing.
use native.Mathlib.Omega.{arith}
use Rattle.pick_lap.proofs.LapLaws.{whole_told}
use Rattle.pick_lap.proofs.visits.whole_span.Goals as goal

pub contiguous_above-above-requires : goal.contiguous_above-above-requires
contiguous_above-above-requires c = (c.requires.2, omega arith)

pub state-number-requires : goal.state-number-requires
state-number-requires c = record {
  cells_span = c.requires.0.span;
  i_lt_pieces = c.requires.1;
}

pub returns : goal.returns
returns c = whole_told c.args.x c.contiguous_above-above.result c.state-number.result c.contiguous_above-above.ensures
    c.state-number.ensures
