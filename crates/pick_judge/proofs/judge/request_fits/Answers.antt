-- `request_fits` meets its contract. Assumes nothing.
use mathlib.Core.Path.{refl}
use borrow.Author.Rules.{rules}
use Rattle.pick_judge.proofs.JudgeLaws.{request_says}
use Rattle.pick_judge.proofs.judge.request_fits.Goals as goal

pub returns : goal.returns
returns c = request_says c.args.s c.args.q c.args.bytes c.args.suggestions c.numbers_fit-fit.result c.numbers_fit-fit.ensures c.num_bytes-most.result c.num_bytes-most.ensures _ refl
