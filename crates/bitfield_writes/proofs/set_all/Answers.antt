-- `set_all` meets its contract: a fill from bit 0 on. Assumes nothing.
use mathlib.Core.Path.{◌∙◌}
use mathlib.Core.Bool.{true}
use Rattle.bitfield_writes.specs.Writing.{grown}
use Rattle.bitfield_writes.proofs.RunLaws.{fill_all}
use Rattle.bitfield_writes.proofs.set_all.Goals as goal

pub returns : goal.returns
unfolding grown
returns c = c.fill_to.ensures ∙ fill_all _ (λ i. true) _
