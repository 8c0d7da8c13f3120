-- `is_locked` meets its contract. Assumes nothing.
use mathlib.Core.Path.{refl}
use Rattle.model.specs.Bep3.{bit_of}
use Rattle.change_flags.proofs.flags.is_locked.Goals as goal

pub returns : goal.returns
unfolding bit_of
returns c = refl
