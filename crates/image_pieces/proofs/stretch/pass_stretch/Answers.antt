-- `pass_stretch` meets its contract. Assumes nothing.
use mathlib.Core.Path.{◌≡◌, subst}
use mathlib.Core.Bool.{true}
use native.Mathlib.Omega.{arith}
use borrow.Author.Tests.{not-false}
use Rattle.image_pieces.specs.Stretches.{Gathered}
use Rattle.image_pieces.proofs.StretchLaws.{stretch_well, stretch_unclear}
use Rattle.image_pieces.proofs.stretch.pass_stretch.Goals as goal

pub returns-then-not-gather : goal.returns-then-not-gather
returns-then-not-gather c = stretch_unclear _ _ _ _ _

pub returns : goal.returns
returns c = let z : c.gather.result ≡ true = not-false _ c.if-not-gather.false-raw in
    stretch_well c.args.start c.args.seeds c.args.size c.args.bytes.now _ _ _ _ _ (λ i. omega (arith, c.shared_slice_known-1.given i)) c.requires.0
    (subst (Gathered c.args.start 128 c.args.size c.args.bytes.now _ _ _ _) z c.gather.ensures) _ c.u64_to_u16.ensures _
    c.rows_pass.ensures
