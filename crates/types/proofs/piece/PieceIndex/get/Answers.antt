-- `PieceIndex::get` meets its contract: a negative number gives 0, and any other fits and is itself. Assumes nothing.
use mathlib.Core.Path.{◌≡◌}
use mathlib.Core.Bool.{true, false}
use lib.IntN.{pos, nat_abs}
use lib.Dec.{T}
use lib.Signed.{lt_z, non_neg}
use mir.Syntax.{w32, w64}
use mir.Val.{Fits, SFits}
use borrow.Author.Rules.{rules}
use Rattle.types.specs.Piece.{index_of}
use Rattle.types.proofs.Signed.{read, negative, casts, index}
use Rattle.types.proofs.piece.PieceIndex.get.Goals as goal

pub overflow_cast-result : goal.overflow_cast-result
overflow_cast-result c = let fit : SFits w32 c.args.self.0 = search rules in
    read (λ v. lt_z v (pos 0) ≡ false → T (non_neg v) × Fits w64 (nat_abs v)) fit (casts c.args.self.0 fit) c.if-n-lt0.false

pub returns-then-n-lt0 : goal.returns-then-n-lt0
returns-then-n-lt0 c = let fit : SFits w32 c.args.self.0 = search rules in
    read (λ v. lt_z v (pos 0) ≡ true → 0 ≡ index_of c.args.self.0) fit (negative c.args.self.0) c.if-n-lt0.true

pub returns-else-n-lt0 : goal.returns-else-n-lt0
returns-else-n-lt0 c = let fit : SFits w32 c.args.self.0 = search rules in
    read (λ v. lt_z v (pos 0) ≡ false → nat_abs v ≡ index_of c.args.self.0) fit (index c.args.self.0) c.if-n-lt0.false
