-- `comes` meets its contract: nothing comes behind the end. Assumes nothing.
use mathlib.Core.Path.{ap, ◌∙◌}
use Prim.Native.Nat.{ℕ}
use lib.Dec.{eqb}
use native.Mathlib.Omega.{arith}
use Rattle.image_records.proofs.FrontLaws.{comes_none, comes_one}
use Rattle.image_records.proofs.front.comes.Goals as goal

pub returns-then-bytes-at : goal.returns-then-bytes-at
returns-then-bytes-at c = comes_none _ _ _ c.if-bytes-at.true

pub returns : goal.returns
returns c = ap (λ (x : ℕ). eqb x c.args.kind) c.from.ensures ∙ comes_one c.args.kind c.args.at c.args.bytes.now (omega arith)
