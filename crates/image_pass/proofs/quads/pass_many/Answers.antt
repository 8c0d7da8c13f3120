-- `pass_many` meets its contract. Assumes nothing.
use mathlib.Core.Path.{◌≡◌, subst}
use Prim.{tt}
use native.Mathlib.Omega.{arith}
use Rattle.image_pass.specs.Blocks.{BlocksWell}
use Rattle.image_pass.specs.Quads.{Gathered}
use Rattle.image_pass.proofs.QuadLaws.{told_well}
use Rattle.image_pass.proofs.quads.pass_many.Goals as goal

pub returns-then-lone-ne0 : goal.returns-then-lone-ne0
unfolding BlocksWell
returns-then-lone-ne0 c = tt

pub returns : goal.returns
returns c = let z : c.gather-lone.result ≡ 0 = omega (arith, c.if-lone-ne0.false) in
    told_well c.args.start c.args.many c.args.bytes.now _ _ (λ i. omega (arith, c.shared_slice_known-1.given i)) c.requires.0 c.requires.1
    (subst (Gathered c.args.start c.args.many c.args.bytes.now _ _) z c.gather-lone.ensures) _ c.tell.ensures
