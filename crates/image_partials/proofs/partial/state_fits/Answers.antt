-- `state_fits` meets its contract: each number has 16 bits. Assumes nothing.
use mathlib.Core.Path.{◌∙◌}
use Rattle.image_partials.proofs.partial.state_fits.Goals as goal

pub returns : goal.returns
returns c = c.state_ok.ensures ∙ rw (
  c.u64_to_u16.ensures,
  c.u64_to_u16-2.ensures,
  c.u64_to_u16-3.ensures,
  c.u64_to_u16-4.ensures,
  c.u64_to_u16-5.ensures,
)
