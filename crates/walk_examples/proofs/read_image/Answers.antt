-- `read_image` meets its contract: the live records fit the rows. Assumes nothing.
use native.Mathlib.Omega.{arith}
use Rattle.memory_records.proofs.laws.LiveLaws.{live_most}
use mathlib.Core.Path.{ap, ◌∙◌}
use Prim.Native.Nat.{ℕ}
use Rattle.memory_records.specs.Rows.{packed}
use Rattle.walk_examples.proofs.read_image.Goals as goal

pub unpack-lent-requires : goal.unpack-lent-requires
unpack-lent-requires c = grind (arith, live_most)

pub returns : goal.returns
unfolding packed
returns c = let r = c.read_core-r.ensures in (r.0, c.pack.ensures ∙ ap (λ (n : ℕ). packed n c.read_core-r.new.rows c.args.partials.now) r.1)
