-- `is_done` meets its contract. Assumes nothing.
use mathlib.Core.Path.{ap}
use mathlib.Core.Bool.{Bool, not, ◌&&◌}
use lib.Dec.{leb}
use Rattle.model.specs.Bep3.{bit_of}
use Rattle.change_returns.proofs.FlagLaws.{passed_bit}
use Rattle.change_returns.proofs.flushing.is_done.Goals as goal

pub returns : goal.returns
unfolding bit_of
returns c = ap (λ (z : Bool). leb c.args.blocks c.args.finished && (z && (not (bit_of c.args.flags 2) && not (bit_of c.args.flags 1))))
    (passed_bit c.args.flags)
