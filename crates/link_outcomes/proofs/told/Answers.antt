-- `told` gives each edit its number and the numbers of its record. Assumes nothing.
use mathlib.Core.Path.{refl, sym}
use Rattle.link_outcomes.specs.Outcomes.{edit_named}
use Rattle.link_outcomes.proofs.told.Goals as goal

pub returns-in-Keep : goal.returns-in-Keep
unfolding edit_named
returns-in-Keep c = record { answers = refl; uses = refl; edits = sym c.in-Keep.is }

pub returns-in-Replace : goal.returns-in-Replace
unfolding edit_named
returns-in-Replace c = record { answers = refl; uses = refl; edits = sym c.in-Replace.is }

pub returns-in-Insert : goal.returns-in-Insert
unfolding edit_named
returns-in-Insert c = record { answers = refl; uses = refl; edits = sym c.in-Insert.is }

pub returns-in-Remove : goal.returns-in-Remove
unfolding edit_named
returns-in-Remove c = record { answers = refl; uses = refl; edits = sym c.in-Remove.is }
