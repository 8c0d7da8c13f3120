-- `numbers_fit` meets its contract. Assumes nothing.
use mathlib.Core.Path.{ap₂}
use mathlib.Core.Bool.{Bool, not, ◌&&◌}
use lib.Dec.{leb}
use borrow.Author.Rules.{rules}
use Rattle.pick_judge.specs.Asking.{numbers_fit}
use Rattle.pick_judge.proofs.judge.numbers_fit.Goals as goal

pub returns : goal.returns
unfolding numbers_fit
returns c = ap₂ (λ (x y : Bool). (((leb 1 c.args.q.wanted && leb c.args.q.wanted 2048) && leb c.args.q.contiguous 2048) && leb c.args.q.peers 1000) && not (x && y))
    c.contains-rarest.ensures c.contains-sequential.ensures
