-- `body_length` meets its contract. Assumes nothing.
use mathlib.Core.Path.{refl}
use Rattle.model.specs.Lists.{nth}
use Rattle.model.specs.image.Image.{body_length}
use Rattle.image_bytes.proofs.lengths.body_length.Goals as goal

pub returns : goal.returns
unfolding body_length nth
returns c = refl
