-- `fresh_tally` meets its contract. Assumes nothing.
use mathlib.Core.Path.{refl}
use Rattle.change_adding.proofs.FreshTallies.{fresh_tallied}
use Rattle.change_adding.proofs.adding.fresh_tally.Goals as goal

pub returns : goal.returns
returns c = fresh_tallied c.args.many c.args.payload _ c.requires.0 refl refl refl refl
