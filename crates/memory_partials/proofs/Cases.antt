-- Flags computed: passed set and locked cleared, hashing left. Assumes nothing.
use mathlib.Core.Path.{◌≡◌, refl}
use mathlib.Core.Bool.{true, false}
use Rattle.memory_partials.specs.Partials.{flagged}

passed_while_hashing : flagged true false 6 ≡ 5
unfolding flagged
passed_while_hashing = refl
