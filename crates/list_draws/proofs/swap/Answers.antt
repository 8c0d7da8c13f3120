-- `swap` meets its contract: two stores. Assumes nothing.
use mathlib.Core.Path.{ap₂}
use Prim.Native.Nat.{ℕ}
use lib.ListN.{set}
use Rattle.model.specs.Lists.{nth, set_nth}
use Rattle.model.specs.list.Order.{swap}
use Rattle.list_draws.proofs.swap.Goals as goal

pub returns : goal.returns
unfolding swap nth set_nth
returns c = ap₂ (λ (x y : ℕ). set (set c.args.list.now c.args.k x) c.args.m y) c.replace.ensures.after c.replace.ensures.value
