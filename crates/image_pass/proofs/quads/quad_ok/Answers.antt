-- `quad_ok` meets its contract. Assumes nothing.
use mathlib.Core.Path.{refl}
use Rattle.image_pass.specs.Quads.{quad_ok}
use Rattle.image_pass.proofs.quads.quad_ok.Goals as goal

pub returns : goal.returns
unfolding quad_ok
returns c = refl
