-- `peer_fits` meets its contract. Assumes nothing.
use mathlib.Core.Path.{refl}
use Rattle.model.specs.image.Image.{peer_fits}
use Rattle.image_records.proofs.block.peer_fits.Goals as goal

pub returns : goal.returns
unfolding peer_fits
returns c = refl
