-- `i64_to_u64` meets its contract: a negative number is past all, and any other fits and is itself. Assumes nothing.
use mathlib.Core.Path.{◌≡◌}
use mathlib.Core.Bool.{true, false}
use lib.IntN.{pos, nat_abs}
use lib.Dec.{T}
use lib.Signed.{lt_z, non_neg}
use mir.Syntax.{w64}
use mir.Val.{Fits, SFits}
use borrow.Author.Rules.{rules}
use Rattle.types.specs.Piece.{number_of}
use Rattle.types.proofs.Signed.{read_64, past_all, casts_64, number}
use Rattle.types.proofs.convert.i64_to_u64.Goals as goal

pub overflow_cast-result : goal.overflow_cast-result
overflow_cast-result c = let fit : SFits w64 c.args.x = search rules in
    read_64 (λ v. lt_z v (pos 0) ≡ false → T (non_neg v) × Fits w64 (nat_abs v)) fit (casts_64 c.args.x fit) c.if-x-lt0.false

pub returns-then-x-lt0 : goal.returns-then-x-lt0
returns-then-x-lt0 c = let fit : SFits w64 c.args.x = search rules in
    read_64 (λ v. lt_z v (pos 0) ≡ true → 9223372036854775808 ≡ number_of c.args.x) fit (past_all c.args.x) c.if-x-lt0.true

pub returns-else-x-lt0 : goal.returns-else-x-lt0
returns-else-x-lt0 c = let fit : SFits w64 c.args.x = search rules in
    read_64 (λ v. lt_z v (pos 0) ≡ false → nat_abs v ≡ number_of c.args.x) fit (number c.args.x) c.if-x-lt0.false
