-- `PieceIndex::next` meets its contract: the sum is kept to what fits. Assumes nothing.
use mathlib.Core.Path.{ap, ◌∙◌}
use lib.IntN.{ℤ, pos, ◌+ℤ◌}
use mir.Syntax.{w32}
use mir.Val.{SFits}
use mir.ValLaws.{to_z-of_z}
use borrow.Author.Rules.{rules}
use Rattle.std.specs.Int.{saturate_signed}
use Rattle.types.proofs.Signed.{saturates}
use Rattle.types.proofs.piece.PieceIndex.next.Goals as goal

pub returns : goal.returns
returns c =
    let old : SFits w32 c.args.self.0 = search rules in
    let new : SFits w32 c.saturating_add.result = search rules in
    to_z-of_z w32 _ new ∙ c.saturating_add.ensures ∙ ap (λ (z : ℤ). saturate_signed w32 (z +ℤ pos 1)) (to_z-of_z w32 _ old) ∙ saturates c.args.self.0 old
